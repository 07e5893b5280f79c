-- Document 02 (ix), 'Which creature is wrong': what a state gets in place of 3, and what that says.
use Rattle.std.specs.Prelude.{true, false, ◌&&◌, ◌≡◌, ℕ, ◌≤◌, ◌<◌, get_or, take, drop}
use Rattle.laws.specs.Lists.{all}
use Rattle.refusal.specs.Refusal.{number_given, Checked, TOO_MANY, OFF_GRID, WRONG_CELL, HEADING, SPARE_SLOT}
use Rattle.refusal.specs.Faults.{room_for}
use Rattle.refusal.specs.InPlace.{is_cause, before, InPlaceOf3}
use Rattle.cutter_ground.specs.Cells.{CB_BLACK, on_grid}
use Rattle.cutter_ground.specs.Movers.{MAX_ENEMIES, blank_slot}
use Rattle.cutter_ground.specs.declared.Mover.{Mover}
use Rattle.cutter_state.specs.declared.Cutter.{Cutter}
use Rattle.cutter_state.specs.State.{holds_at}
use Rattle.cutter_state.specs.WellFormed.{cells_ok, player_ok, is_unit, mover_ok, is_blank, creatures_ok, numbers_ok, refusal_of}

-- the slot i
abbrev pub slot_at : Cutter → ℕ → Mover
slot_at c i = get_or c.enemies i blank_slot

-- every creature before i is right
abbrev pub RightTo : Cutter → ℕ → Type 0
RightTo c i = all (mover_ok c.grid) (take i c.enemies) ≡ true

-- what each number says of the creature or slot that it names, and of those before
pub data Tells (c : Cutter) : Checked → Type 0 where
  too_many : room_for MAX_ENEMIES c.enemies c.count ≡ false → Tells c TOO_MANY
  off_grid : (i : ℕ) → i < c.count → RightTo c i → on_grid (slot_at c i).x (slot_at c i).y ≡ false → Tells c (OFF_GRID i)
  wrong_cell : (i : ℕ) → i < c.count → RightTo c i → on_grid (slot_at c i).x (slot_at c i).y ≡ true
      → holds_at c.grid CB_BLACK (slot_at c i).x (slot_at c i).y ≡ false → Tells c (WRONG_CELL i)
  heading : (i : ℕ) → i < c.count → RightTo c i → holds_at c.grid CB_BLACK (slot_at c i).x (slot_at c i).y ≡ true
      → (is_unit (slot_at c i).vx && is_unit (slot_at c i).vy) ≡ false → Tells c (HEADING i)
  spare : (i : ℕ) → c.count ≤ i → i < MAX_ENEMIES → RightTo c c.count
      → all is_blank (drop c.count (take i c.enemies)) ≡ true → is_blank (slot_at c i) ≡ false → Tells c (SPARE_SLOT i)

-- a state gets a cause where it got 3, and the cause says what is wrong
pub record Which (c : Cutter) : Type 0 where
  pub place : InPlaceOf3 (before (cells_ok c.grid c.trailing) (player_ok c) (creatures_ok c) (numbers_ok c)) (refusal_of c)
  pub told : is_cause (number_given (refusal_of c)) ≡ true → Tells c (refusal_of c)
