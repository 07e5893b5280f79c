-- What the steps of a move and of a creature tick ask, and what a creature's tells. No promise cites it.
use Rattle.std.specs.Prelude.{Bool, true, ◌||◌, List, ◌≡◌, ℕ, ◌<◌, ◌≤◌, length, set, Option}
use Rattle.mine_state.specs.declared.Mine.{Mine}
use Rattle.mine_state.specs.declared.Enemy.{Enemy}
use Rattle.mine_state.specs.State.{AREA, EMPTY, place, empty_at}
use Rattle.mine_apart.specs.CodeApart.{joined, standing, Spotted, Apart, Lent}
use Rattle.mine_rules.specs.Move.{moved}
use Rattle.mine_moves.specs.declared.moves.Move.{Move}
use Rattle.mine_moves.specs.declared.moves.Player.{Player}
use Rattle.mine_state.specs.CodeState.{on_map}
use Rattle.mine_rules.specs.CodeWays.{OnGrid}

-- the player's part of a state
abbrev pub player_of : Mine → Player
player_of m = record { px = m.px; py = m.py; coins = m.coins; needed = m.needed; dead = m.dead; won = m.won }

-- the player as it is; its own cell stays empty
abbrev pub staying : Mine → Move
staying m = record { player = player_of m; at = place m.px m.py; code = EMPTY }

-- a player at (x, y) instead
abbrev pub at_cell : Player → ℕ → ℕ → Player
at_cell p x y = record { px = x; py = y; coins = p.coins; needed = p.needed; dead = p.dead; won = p.won }

abbrev pub gone : Move → ℕ → ℕ → Move
gone s x y = record { player = at_cell s.player x y; at = s.at; code = s.code }

-- the state of the lent grid, the creatures and the player's part, and of the marks
abbrev pub playing : List Bool → List ℕ → List Enemy → ℕ → Player → Mine
playing f g es n p = record { grid = g; falling = f; px = p.px; py = p.py; enemies = es; count = n; coins = p.coins; needed = p.needed; dead = p.dead; won = p.won }

-- the state after a move: one cell has its code, the player's is empty
abbrev pub applied : Mine → Move → Mine
applied m t = playing m.falling (set (set m.grid t.at t.code) (place t.player.px t.player.py) EMPTY) m.enemies m.count t.player

-- the cells of a move are on the grid
pub record Inside (t : Move) : Type 0 where
  pub cell : t.at < AREA
  pub home : OnGrid t.player.px t.player.py

-- what a move asks of the lent grid and places and of what staying is
pub record Lends (g spots : List ℕ) (s : Move) : Type 0 where
  pub lent : Lent g spots
  pub inside : Inside s
  pub purse : s.player.coins ≤ AREA

-- and at a cell of the grid
pub record Meets (g spots : List ℕ) (s : Move) (x y : ℕ) : Type 0 where
  pub lends : Lends g spots s
  pub there : OnGrid x y

-- a state that has the lent grid, whose creatures are at the lent places and whose player, on an empty cell, stays by s
pub record Plays (m : Mine) (g spots : List ℕ) (s : Move) : Type 0 where
  pub cells : m.grid ≡ g
  pub spotted : Spotted m.enemies m.count spots
  pub empty : empty_at m.grid m.px m.py ≡ true
  pub stays : s ≡ staying m

-- whatever else such a state holds: the move r makes of it what the rule makes
abbrev pub Makes : List ℕ → List ℕ → Move → Move → (Mine → Mine) → Type 0
Makes g spots s r rule = (m : Mine) → Plays m g spots s → applied m r ≡ rule m

-- what a move in place asks
pub record Stands (g spots : List ℕ) (p : Player) : Type 0 where
  pub lent : Lent g spots
  pub home : OnGrid p.px p.py
  pub empty : empty_at g p.px p.py ≡ true
  pub purse : p.coins ≤ AREA

-- whatever the marks and the creatures at the lent places, the move makes this grid and this of the player
abbrev pub Steps : List ℕ → List ℕ → Player → ℕ → List ℕ → Player → Type 0
Steps g spots p d g' r = (f : List Bool) (es : List Enemy) (n : ℕ) → Spotted es n spots → moved (playing f g es n p) d ≡ playing f g' es n r

-- what a creature's step asks of the lent grid and places
pub record Walks (g spots : List ℕ) (e : Enemy) : Type 0 where
  pub lent : Lent g spots
  pub placed : on_map e ≡ true

-- whatever else a state holds that has the lent grid and whose creatures are at the lent places: r is the step there
abbrev pub Tells : List ℕ → List ℕ → Option Enemy → (Mine → Option Enemy) → Type 0
Tells g spots r step = (m : Mine) → m.grid ≡ g → Spotted m.enemies m.count spots → r ≡ step m

-- what a tick asks of the lent grid and creatures
pub record Walkers (g spots ds : List ℕ) (n : ℕ) : Type 0 where
  pub cells : length g ≡ AREA
  pub parts : Apart n spots ds

-- the player is dead besides, where that is so
abbrev pub dead_if : Bool → Mine → Mine
dead_if so m = record {
  grid = m.grid;
  falling = m.falling;
  px = m.px;
  py = m.py;
  enemies = m.enemies;
  count = m.count;
  coins = m.coins;
  needed = m.needed;
  dead = so || m.dead;
  won = m.won;
}

-- whatever else a state holds that the lent parts make: the rule leaves these creatures, and r tells whether one caught the player
pub record Ticked (rule : Mine → Mine) (g : List ℕ) (n px py : ℕ) (spots ds : List ℕ) (r : Bool) (spots' ds' : List ℕ) : Type 0 where
  pub parts : Apart n spots' ds'
  pub does : (m : Mine) → rule (standing m g (joined n spots ds) n px py) ≡ dead_if r (standing m g (joined n spots' ds') n px py)
