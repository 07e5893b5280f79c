-- Block Cutter: a state with one part changed. (antt has no record update.)
use Rattle.std.specs.Prelude.{Bool, true, List, ℕ, ℤ, set}
use Rattle.cutter_ground.specs.declared.Mover.{Mover}
use Rattle.cutter_state.specs.declared.Cutter.{Cutter}
use Rattle.cutter_ground.specs.Cells.{place}

-- a state by its parts
abbrev pub state_of : List ℕ → ℕ → ℕ → ℤ → ℤ → Bool → List Mover → ℕ → ℕ → ℕ → Bool → Bool → Cutter
state_of g px py dx dy t es n level lives dead won =
    record {
      grid = g;
      px = px;
      py = py;
      dx = dx;
      dy = dy;
      trailing = t;
      enemies = es;
      count = n;
      level = level;
      lives = lives;
      dead = dead;
      won_level = won;
    }

module _ (c : Cutter) where
  abbrev pub with_grid : List ℕ → Cutter
  with_grid g = state_of g c.px c.py c.dx c.dy c.trailing c.enemies c.count c.level c.lives c.dead c.won_level

  abbrev pub with_player : ℕ → ℕ → Cutter
  with_player x y = state_of c.grid x y c.dx c.dy c.trailing c.enemies c.count c.level c.lives c.dead c.won_level

  abbrev pub with_direction : ℤ → ℤ → Cutter
  with_direction a b = state_of c.grid c.px c.py a b c.trailing c.enemies c.count c.level c.lives c.dead c.won_level

  abbrev pub with_trailing : Bool → Cutter
  with_trailing t = state_of c.grid c.px c.py c.dx c.dy t c.enemies c.count c.level c.lives c.dead c.won_level

  abbrev pub with_creatures : List Mover → ℕ → Cutter
  with_creatures es n = state_of c.grid c.px c.py c.dx c.dy c.trailing es n c.level c.lives c.dead c.won_level

  abbrev pub with_level : ℕ → Cutter
  with_level n = state_of c.grid c.px c.py c.dx c.dy c.trailing c.enemies c.count n c.lives c.dead c.won_level

  abbrev pub with_lives : ℕ → Cutter
  with_lives n = state_of c.grid c.px c.py c.dx c.dy c.trailing c.enemies c.count c.level n c.dead c.won_level

  abbrev pub with_dead : Bool → Cutter
  with_dead b = state_of c.grid c.px c.py c.dx c.dy c.trailing c.enemies c.count c.level c.lives b c.won_level

  abbrev pub with_won : Bool → Cutter
  with_won b = state_of c.grid c.px c.py c.dx c.dy c.trailing c.enemies c.count c.level c.lives c.dead b

  -- the cell (x, y) holds the code k
  abbrev pub with_cell : ℕ → ℕ → ℕ → Cutter
  with_cell x y k = with_grid (set c.grid (place x y) k)

abbrev pub killed : Cutter → Cutter
killed c = with_dead c true
