-- Document 02 (ix), 'Which creature is wrong': what a state gets in place of 3, and what that says.
use Rattle.std.specs.Prelude.{true, false, ◌≡◌, ℕ, ◌≤◌, ◌<◌, get_or, take, drop}
use Rattle.laws.specs.Lists.{all, any}
use Rattle.refusal.specs.Refusal.{number_given, Checked, TOO_MANY, OFF_GRID, WRONG_CELL, HEADING, SHARED_CELL, SPARE_SLOT}
use Rattle.refusal.specs.Faults.{room_for}
use Rattle.refusal.specs.InPlace.{is_cause, before, InPlaceOf3}
use Rattle.mine_state.specs.declared.Mine.{Mine}
use Rattle.mine_state.specs.declared.Enemy.{Enemy}
use Rattle.mine_state.specs.State.{MAX_ENEMIES, on_grid, empty_at, stands_at, blank_slot}
use Rattle.mine_state.specs.WellFormed.{cells_ok, player_ok, creature_ok, apart, is_blank, creatures_ok, numbers_ok, refusal_of}

-- the slot i
abbrev pub slot_at : Mine → ℕ → Enemy
slot_at m i = get_or m.enemies i blank_slot

-- every creature before i is right: each by itself, and no two on one cell
pub record RightTo (m : Mine) (i : ℕ) : Type 0 where
  pub each : all (creature_ok m.grid) (take i m.enemies) ≡ true
  pub distinct : apart (take i m.enemies) ≡ true

-- what each number says of the creature or slot that it names, and of those before
pub data Tells (m : Mine) : Checked → Type 0 where
  too_many : room_for MAX_ENEMIES m.enemies m.count ≡ false → Tells m TOO_MANY
  off_grid : (i : ℕ) → i < m.count → RightTo m i → on_grid (slot_at m i).x (slot_at m i).y ≡ false → Tells m (OFF_GRID i)
  wrong_cell : (i : ℕ) → i < m.count → RightTo m i → on_grid (slot_at m i).x (slot_at m i).y ≡ true
      → empty_at m.grid (slot_at m i).x (slot_at m i).y ≡ false → Tells m (WRONG_CELL i)
  heading : (i : ℕ) → i < m.count → RightTo m i → empty_at m.grid (slot_at m i).x (slot_at m i).y ≡ true
      → 3 < (slot_at m i).dir → Tells m (HEADING i)
  shared : (i : ℕ) → i < m.count → RightTo m i → creature_ok m.grid (slot_at m i) ≡ true
      → any (stands_at (slot_at m i).x (slot_at m i).y) (take i m.enemies) ≡ true → Tells m (SHARED_CELL i)
  spare : (i : ℕ) → m.count ≤ i → i < MAX_ENEMIES → RightTo m m.count
      → all is_blank (drop m.count (take i m.enemies)) ≡ true → is_blank (slot_at m i) ≡ false → Tells m (SPARE_SLOT i)

-- a state gets a cause where it got 3, and the cause says what is wrong
pub record Which (m : Mine) : Type 0 where
  pub place : InPlaceOf3 (before (cells_ok m) (player_ok m) (creatures_ok m) (numbers_ok m)) (refusal_of m)
  pub told : is_cause (number_given (refusal_of m)) ≡ true → Tells m (refusal_of m)
