-- Block Cutter: well-formed states, and the refusal of a state that is not.
use Rattle.std.specs.Prelude.{Bool, true, cond, ◌&&◌, List, ◌≡◌, ℕ, ◌+◌, ◌-◌, ◌≤◌, leb, eqb, ℤ, nat_abs, length}
use Rattle.std.specs.Bool.{beq}
use Rattle.laws.specs.Lists.{all, any, all_below}
use Rattle.refusal.specs.Refusal.{Checked, CELLS, PLAYER, OFF_GRID, WRONG_CELL, HEADING, NUMBERS, unless, ◌then◌}
use Rattle.refusal.specs.Faults.{fault_in}
use Rattle.cutter_ground.specs.Cells.{CW, CH, CN, CB_BLACK, CB_FILLED, CB_TRAIL, place, on_grid, claimed_at}
use Rattle.cutter_ground.specs.declared.Mover.{Mover}
use Rattle.cutter_state.specs.declared.Cutter.{Cutter}
use Rattle.cutter_state.specs.State.{holds_at, creatures, spare}
use Rattle.cutter_ground.specs.Movers.{MAX_ENEMIES}

abbrev pub MAX_LIVES : ℕ
MAX_LIVES = 3

abbrev pub MAX_LEVEL : ℕ
MAX_LEVEL = 65535

-- ---- 1: a cell code, the ring, or line cells against trailing

-- codes 0 to 2
abbrev pub is_code : ℕ → Bool
is_code k = leb k CB_TRAIL

abbrev pub is_trail : ℕ → Bool
is_trail k = eqb k CB_TRAIL

-- the first and the last row are claimed
unfoldable pub rows_filled : List ℕ → Bool
rows_filled g = all_below CW (λ x. claimed_at g (place x 0) && claimed_at g (place x (CH - 1)))

-- the first and the last column are claimed
unfoldable pub columns_filled : List ℕ → Bool
columns_filled g = all_below CH (λ y. claimed_at g (place 0 y) && claimed_at g (place (CW - 1) y))

-- 64 by 32 cells, codes 0 to 2; the outer ring of 188 cells is claimed; line cells exist exactly when trailing
unfoldable pub cells_ok : List ℕ → Bool → Bool
cells_ok g trailing =
    eqb (length g) CN
    && all is_code g
    && (rows_filled g && columns_filled g)
    && beq (any is_trail g) trailing

-- ---- 2: the player's place, or the direction

-- on a line cell when trailing, on a claimed cell otherwise
abbrev pub footing : Bool → ℕ
footing trailing = cond trailing CB_TRAIL CB_FILLED

-- none or one of four unit steps: at most one cell, across or down
abbrev pub direction_ok : ℤ → ℤ → Bool
direction_ok dx dy = leb (nat_abs dx + nat_abs dy) 1

unfoldable pub player_ok : Cutter → Bool
player_ok c = holds_at c.grid (footing c.trailing) c.px c.py && direction_ok c.dx c.dy

-- ---- in place of 3, 31 to 36: a creature or their number

-- -1 or 1
abbrev pub is_unit : ℤ → Bool
is_unit v = eqb (nat_abs v) 1

abbrev pub is_zero : ℤ → Bool
is_zero v = eqb (nat_abs v) 0

-- on black, each velocity part -1 or 1
unfoldable pub mover_ok : List ℕ → Mover → Bool
mover_ok g e = holds_at g CB_BLACK e.x e.y && is_unit e.vx && is_unit e.vy

-- a slot that holds zeros
unfoldable pub is_blank : Mover → Bool
is_blank e = eqb e.x 0 && eqb e.y 0 && is_zero e.vx && is_zero e.vy

-- at most 16 creatures, each right by itself; slots past the count hold zeros
unfoldable pub creatures_ok : Cutter → Bool
creatures_ok c =
    eqb (length c.enemies) MAX_ENEMIES
    && leb c.count MAX_ENEMIES
    && all (mover_ok c.grid) (creatures c)
    && all is_blank (spare c)

-- the same by creature, of the one in the slot i: off the grid, on a wrong cell, its velocity
unfoldable pub creature_fault : List ℕ → ℕ → Mover → Checked
creature_fault g i e =
    unless (on_grid e.x e.y) (OFF_GRID i)
    then unless (holds_at g CB_BLACK e.x e.y) (WRONG_CELL i)
    then unless (is_unit e.vx && is_unit e.vy) (HEADING i)

-- too many first, then by creature, a slot past the count last
unfoldable pub creatures_fault : Cutter → Checked
creatures_fault c = fault_in MAX_ENEMIES (creature_fault c.grid) is_blank c.enemies c.count

-- ---- 4: lives or level

-- lives 0 to 3, level 1 to 65,535
unfoldable pub numbers_ok : Cutter → Bool
numbers_ok c = leb c.lives MAX_LIVES && leb 1 c.level && leb c.level MAX_LEVEL

-- ---- all of it

unfoldable pub well_formed : Cutter → Bool
well_formed c = cells_ok c.grid c.trailing && player_ok c && creatures_ok c && numbers_ok c

-- the refusal that a state gets: the first that applies, the creatures' fault in place of 3
unfoldable pub refusal_of : Cutter → Checked
refusal_of c =
    unless (cells_ok c.grid c.trailing) CELLS
    then unless (player_ok c) PLAYER
    then creatures_fault c
    then unless (numbers_ok c) NUMBERS

-- what well-formedness says, part by part
pub record WellFormed (c : Cutter) : Type 0 where
  pub cells : length c.grid ≡ CN
  pub codes : all is_code c.grid ≡ true
  pub rows : rows_filled c.grid ≡ true
  pub columns : columns_filled c.grid ≡ true
  pub line : any is_trail c.grid ≡ c.trailing
  pub player : holds_at c.grid (footing c.trailing) c.px c.py ≡ true
  pub direction : direction_ok c.dx c.dy ≡ true
  pub slots : length c.enemies ≡ MAX_ENEMIES
  pub few : c.count ≤ MAX_ENEMIES
  pub each : all (mover_ok c.grid) (creatures c) ≡ true
  pub rest : all is_blank (spare c) ≡ true
  pub lives : c.lives ≤ MAX_LIVES
  pub level : (1 ≤ c.level) × (c.level ≤ MAX_LEVEL)
