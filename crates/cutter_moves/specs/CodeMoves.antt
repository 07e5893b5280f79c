-- Block Cutter: what the code of the moves is handed, and what its loop answers. No promise cites it.
use Rattle.std.specs.Prelude.{true, cond, List, ◌++◌, ◌≡◌, ℕ, ◌-◌, ◌<◌, ◌≤◌, ◌/◌, ◌%◌, ℤ, length, take, drop, Option, None, Some}
use Rattle.laws.specs.Lists.{all, any}
use Rattle.cutter_ground.specs.Cells.{CW, CH, CN, cell_at}
use Rattle.cutter_ground.specs.declared.Mover.{Mover}
use Rattle.cutter_state.specs.WellFormed.{rows_filled, columns_filled, is_unit, mover_ok}
use Rattle.cutter_rules.specs.Ahead.{side_of, vertical_of, diagonal_of}
use Rattle.cutter_rules.specs.Tick.{line_ahead, bounced, movers_stepped}
use Rattle.cutter_moves.specs.declared.enemies.Moved.{Moved}
use Rattle.cutter_moves.specs.declared.enemies.View.{View}
use Rattle.cutter_state.specs.CodeState.{Inside}
use Rattle.cutter_ground.specs.Movers.{MAX_ENEMIES, place_of}

-- a place on the grid
pub record OnGrid (x y : ℕ) : Type 0 where
  pub across : x < CW
  pub down : y < CH

-- a cell with a neighbour on either side, and a velocity that points to one
pub record Across (t : ℕ) (v : ℤ) : Type 0 where
  pub inside : t < CN
  pub left : 0 < t % CW
  pub right : t % CW < CW - 1
  pub unit : is_unit v ≡ true

-- a cell with a neighbour above and below, likewise
pub record Along (t : ℕ) (v : ℤ) : Type 0 where
  pub top : CW ≤ t
  pub bottom : t < CN - CW
  pub unit : is_unit v ≡ true

-- a lent ground, a creature inside the ring, and velocities to move it by
pub record Roams (g : List ℕ) (e : Mover) (vx vy : ℤ) : Type 0 where
  pub cells : length g ≡ CN
  pub amid : Inside e.x e.y
  pub across : is_unit vx ≡ true
  pub along : is_unit vy ≡ true

-- a lent ground with its ring, and n creatures on black
pub record Ticks (g : List ℕ) (es : List Mover) (n : ℕ) : Type 0 where
  pub cells : length g ≡ CN
  pub rows : rows_filled g ≡ true
  pub columns : columns_filled g ≡ true
  pub few : n ≤ MAX_ENEMIES
  pub each : all (mover_ok g) (take n es) ≡ true

-- the diagonal cell ahead of a creature, and the codes of the side, the vertical and the diagonal one
abbrev pub view_of : List ℕ → Mover → View
view_of g e = record {
  to = diagonal_of e.vx e.vy (place_of e);
  side = cell_at g (side_of e.vx (place_of e));
  vertical = cell_at g (vertical_of e.vy (place_of e));
  diagonal = cell_at g (diagonal_of e.vx e.vy (place_of e));
}

-- a creature, and what it has ahead
pub record Bounces (g : List ℕ) (e : Mover) (v : View) : Type 0 where
  pub roams : Roams g e e.vx e.vy
  pub seen : v ≡ view_of g e

-- a creature at the cell t
abbrev pub mover_at : ℕ → ℤ → ℤ → Mover
mover_at t vx vy = record { x = t % CW; y = t / CW; vx = vx; vy = vy }

-- where a creature is then, or none where it has line ahead
abbrev pub roam_of : List ℕ → Mover → Option Mover
roam_of g e = cond (line_ahead g e) None (Some (bounced g e))

-- the tick of the first n creatures, and whether one of them had line ahead
unfoldable pub tick_of : List ℕ → List Mover → ℕ → Moved
tick_of g es n = record { enemies = movers_stepped g (take n es) ++ drop n es; dead = any (line_ahead g) (take n es) }
