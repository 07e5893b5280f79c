-- Block Mine: a state with one part changed. (antt has no record update.)
use Rattle.std.specs.Prelude.{Bool, true, List, ℕ, set}
use Rattle.mine_state.specs.declared.Mine.{Mine}
use Rattle.mine_state.specs.declared.Enemy.{Enemy}
use Rattle.mine_state.specs.State.{EMPTY, place}

-- a state by its parts
abbrev pub state_of : List ℕ → List Bool → ℕ → ℕ → List Enemy → ℕ → ℕ → ℕ → Bool → Bool → Mine
state_of g f px py es n coins needed dead won =
    record {
      grid = g;
      falling = f;
      px = px;
      py = py;
      enemies = es;
      count = n;
      coins = coins;
      needed = needed;
      dead = dead;
      won = won;
    }

module _ (m : Mine) where
  abbrev pub with_grid : List ℕ → Mine
  with_grid g = state_of g m.falling m.px m.py m.enemies m.count m.coins m.needed m.dead m.won

  abbrev pub with_marks : List Bool → Mine
  with_marks f = state_of m.grid f m.px m.py m.enemies m.count m.coins m.needed m.dead m.won

  abbrev pub with_player : ℕ → ℕ → Mine
  with_player x y = state_of m.grid m.falling x y m.enemies m.count m.coins m.needed m.dead m.won

  abbrev pub with_creatures : List Enemy → ℕ → Mine
  with_creatures es n = state_of m.grid m.falling m.px m.py es n m.coins m.needed m.dead m.won

  abbrev pub with_coins : ℕ → Mine
  with_coins n = state_of m.grid m.falling m.px m.py m.enemies m.count n m.needed m.dead m.won

  abbrev pub with_needed : ℕ → Mine
  with_needed n = state_of m.grid m.falling m.px m.py m.enemies m.count m.coins n m.dead m.won

  abbrev pub killed : Mine
  killed = state_of m.grid m.falling m.px m.py m.enemies m.count m.coins m.needed true m.won

  abbrev pub winner : Mine
  winner = state_of m.grid m.falling m.px m.py m.enemies m.count m.coins m.needed m.dead true

  -- the cell (x, y) holds the code t
  abbrev pub with_cell : ℕ → ℕ → ℕ → Mine
  with_cell x y t = with_grid (set m.grid (place x y) t)

-- the creature i is now e
abbrev pub with_creature : Mine → ℕ → Enemy → Mine
with_creature m i e = with_creatures m (set m.enemies i e) m.count

-- the player digs (x, y) out and stands there
abbrev pub entered : Mine → ℕ → ℕ → Mine
entered m x y = with_player (with_cell m x y EMPTY) x y
