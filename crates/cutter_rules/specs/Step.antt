-- Block Cutter: the direction call, and the player's step.
use Rattle.std.specs.Prelude.{Bool, true, false, cond, ◌&&◌, not, List, map, ℕ, zero, suc, ◌/◌, ◌%◌, eqb, leb, ltb, ℤ, pos, negsuc, set, None, Option, Some}
use Rattle.found.specs.declared.Found.{Found}
use Rattle.cutter_ground.specs.Cells.{CW, CN, CB_BLACK, CB_TRAIL, on_border, line_at, claimed_at, place}
use Rattle.cutter_state.specs.declared.Cutter.{Cutter}
use Rattle.cutter_state.specs.State.{creatures}
use Rattle.cutter_state.specs.WellFormed.{is_zero}
use Rattle.cutter_state.specs.Change.{with_grid, with_player, with_direction, with_trailing, with_creatures, killed}
use Rattle.cutter_closing.specs.Counted.{MAX_COMP}
use Rattle.cutter_closing.specs.Closing.{close_cut}
use Rattle.cutter_border.proofs.Nearest.{nearest}
use Rattle.cutter_rules.specs.Ahead.{diagonal_of}
use Rattle.cutter_rules.specs.Level.{at_start}
use Rattle.cutter_ground.specs.declared.Mover.{Mover}
use Rattle.found.specs.First.{first, nobody}
use Rattle.cutter_ground.specs.Movers.{place_of}

-- ---- direction

-- the unit step for 0 to 3: up, right, down, left
unfoldable pub unit_x : ℕ → ℤ
unit_x zero = pos 0
unit_x (suc zero) = pos 1
unit_x (suc (suc zero)) = pos 0
unit_x (suc (suc (suc d))) = negsuc 0

unfoldable pub unit_y : ℕ → ℤ
unit_y zero = negsuc 0
unit_y (suc zero) = pos 0
unit_y (suc (suc zero)) = pos 1
unit_y (suc (suc (suc d))) = pos 0

-- the direction call sets the unit step, nothing else
abbrev pub directed : Cutter → ℕ → Cutter
directed c d = with_direction c (unit_x d) (unit_y d)

-- ---- step

-- a creature at a cell
abbrev pub is_at : ℕ → Mover → Bool
is_at at e = eqb (place_of e) at

-- the first creature at a cell and how many are there, or nobody
abbrev pub creature_at : List Mover → ℕ → Option Found
creature_at es at = first (is_at at) es

abbrev pub no_direction : Cutter → Bool
no_direction c = is_zero c.dx && is_zero c.dy

-- the direction clears
abbrev pub stopped : Cutter → Cutter
stopped c = with_direction c (pos 0) (pos 0)

abbrev pub player_cell : Cutter → ℕ
player_cell c = place c.px c.py

-- the cell that the step goes to (one part of a direction is 0)
abbrev pub target : Cutter → ℕ
target c = diagonal_of c.dx c.dy (player_cell c)

-- the player enters the cell t
abbrev pub entered : Cutter → ℕ → Cutter
entered c t = with_player c (t % CW) (t / CW)

-- the player lays line at the cell t
abbrev pub laid : Cutter → ℕ → Cutter
laid c t = entered (with_grid c (set c.grid t CB_TRAIL)) t

-- closes the cut: trailing ends, the direction stays
unfoldable pub cut_closed : Cutter → Cutter
cut_closed c =
    let cut = close_cut MAX_COMP c.grid (creatures c) in
    with_trailing (with_creatures (with_grid c cut.grid) cut.enemies cut.count) false

-- moves to the border: to the nearest cell beside black
unfoldable pub at_border : Cutter → Cutter
at_border c = entered c (nearest c.grid (player_cell c)).0

-- trailing: line is dead, claimed enters, closes the cut and then moves to the border, black lays line
unfoldable pub trailing_step : Cutter → ℕ → Cutter
trailing_step c t =
    cond (line_at c.grid t) (killed c)
    (cond (claimed_at c.grid t) (at_border (cut_closed (entered c t))) (laid c t))

-- otherwise: claimed with black among its eight neighbours is entered, other claimed clears the direction, black lays line and starts
-- trailing
unfoldable pub walking_step : Cutter → ℕ → Cutter
walking_step c t =
    cond (claimed_at c.grid t)
    (cond (on_border c.grid t) (entered c t) (stopped c))
    (with_trailing (laid c t) true)

-- a creature there, dead
unfoldable pub met : Option Found → Cutter → ℕ → Cutter
met (Some f) c t = killed c
met None c t = cond c.trailing (trailing_step c t) (walking_step c t)

-- no direction, nothing; off the grid, the direction clears
unfoldable pub stepped : Cutter → Cutter
stepped c =
    cond (no_direction c) c
    (cond (leb CN (target c)) (stopped c) (met (creature_at (creatures c) (target c)) c (target c)))

-- the player has a direction, to a cell of the grid where no creature is
unfoldable pub advances : Cutter → Bool
advances c = not (no_direction c) && ltb (target c) CN && nobody (creature_at (creatures c) (target c))

-- a step closes the cut: trailing, to a claimed cell
unfoldable pub closes : Cutter → Bool
closes c = advances c && (c.trailing && claimed_at c.grid (target c))

-- ---- respawn

-- line back to black
abbrev pub line_erased : ℕ → ℕ
line_erased k = cond (eqb k CB_TRAIL) CB_BLACK k

-- line back to black, player (32,0), no direction, not trailing
abbrev pub back_at_start : Cutter → Cutter
back_at_start c = with_grid (at_start c) (map line_erased c.grid)

-- then to the border
unfoldable pub respawned : Cutter → Cutter
respawned c = at_border (back_at_start c)
