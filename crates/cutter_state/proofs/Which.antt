-- A cause is given exactly where the creatures are wrong, and says what is. Assumes nothing.
use mathlib.Core.Bool.{Bool, true, false, ◌&&◌, true≢false}
use mathlib.Core.List.{List}
use mathlib.Core.Path.{◌≡◌, refl, sym, ◌∙◌}
use Prim.Native.Nat.{ℕ, ◌<◌}
use lib.Dec.{eqb}
use lib.ListN.{take}
use Rattle.laws.specs.Lists.{all}
use Rattle.refusal.specs.Refusal.{number_given, Checked, OFF_GRID, WRONG_CELL, HEADING, clear, unless, ◌then◌}
use Rattle.refusal.specs.Faults.{first_fault}
use Rattle.refusal.specs.InPlace.{is_cause}
use Rattle.refusal.proofs.Checks.{in_place_of_3, cause_given}
use Rattle.refusal.proofs.Faults.{clear-each, clear_in, told}
use Rattle.cutter_ground.specs.Cells.{CB_BLACK, cell_at, place, on_grid}
use Rattle.cutter_ground.specs.Movers.{MAX_ENEMIES, blank_slot}
use Rattle.cutter_ground.specs.declared.Mover.{Mover}
use Rattle.cutter_state.specs.declared.Cutter.{Cutter}
use Rattle.cutter_state.specs.State.{holds_at, creatures}
use Rattle.cutter_state.specs.WellFormed.{cells_ok, player_ok, is_unit, mover_ok, is_blank, creatures_ok, creature_fault, creatures_fault, numbers_ok, refusal_of}
use Rattle.cutter_state.specs.Which.{slot_at, RightTo, Tells, too_many, off_grid, wrong_cell, heading, spare, Which}

-- the three checks of a creature: where none fails, and which is the first that does
module _ (i : ℕ) where
  abbrev checks : Bool → Bool → Bool → Checked
  checks grid cell way = unless grid (OFF_GRID i) then unless cell (WRONG_CELL i) then unless way (HEADING i)

  checks_clear : (a b c d : Bool) → clear (checks a (a && b) (c && d)) ≡ (a && b && c && d)
  checks_clear false b c d = refl
  checks_clear true false c d = refl
  checks_clear true true false d = refl
  checks_clear true true true false = refl
  checks_clear true true true true = refl

  checks_given : (P : Checked → Type 0) (a b c : Bool)
      → (a ≡ false → P (OFF_GRID i)) → (a ≡ true → b ≡ false → P (WRONG_CELL i)) → (b ≡ true → c ≡ false → P (HEADING i))
      → clear (checks a b c) ≡ false → P (checks a b c)
  checks_given P false b c grid cell way e = grid refl
  checks_given P true false c grid cell way e = cell refl refl
  checks_given P true true false grid cell way e = way refl refl
  checks_given P true true true grid cell way e = absurd (true≢false e)

clear-creature : (g : List ℕ) (i : ℕ) (e : Mover) → clear (creature_fault g i e) ≡ mover_ok g e
unfolding creature_fault mover_ok holds_at
clear-creature g i e = checks_clear i (on_grid e.x e.y) (eqb (cell_at g (place e.x e.y)) CB_BLACK) (is_unit e.vx) (is_unit e.vy)

module _ (c : Cutter) where
  clear_to : (l : List Mover) → clear (first_fault (creature_fault c.grid) 0 l) ≡ all (mover_ok c.grid) l
  clear_to l = clear-each (creature_fault c.grid) (mover_ok c.grid) (clear-creature c.grid) 0 l

  -- a fault is given exactly where the creatures are wrong
  pub fault_clear : clear (creatures_fault c) ≡ creatures_ok c
  unfolding creatures_fault creatures_ok
  fault_clear =
      clear_in MAX_ENEMIES (creature_fault c.grid) is_blank c.enemies c.count
      (all (mover_ok c.grid) (creatures c)) (λ h. clear_to (creatures c))

  -- the fault of a creature, where those before it have none
  one_tells : (i : ℕ) → i < c.count → RightTo c i → clear (creature_fault c.grid i (slot_at c i)) ≡ false → Tells c (creature_fault c.grid i (slot_at c i))
  unfolding creature_fault
  one_tells i h r =
      let e = slot_at c i in
      checks_given i (Tells c) (on_grid e.x e.y) (holds_at c.grid CB_BLACK e.x e.y) (is_unit e.vx && is_unit e.vy)
      (off_grid i h r) (wrong_cell i h r) (heading i h r)

  tells : clear (creatures_fault c) ≡ false → Tells c (creatures_fault c)
  unfolding creatures_fault
  tells =
      told MAX_ENEMIES (creature_fault c.grid) is_blank c.enemies c.count (Tells c) blank_slot
      too_many
      (λ h i l e. one_tells i l (sym (clear_to (take i c.enemies)) ∙ e))
      (λ h e i l k. spare i l k (sym (clear_to (creatures c)) ∙ e))

tells_cause : {c : Cutter} {r : Checked} → Tells c r → is_cause (number_given r) ≡ true
tells_cause (too_many _) = refl
tells_cause (off_grid _ _ _ _) = refl
tells_cause (wrong_cell _ _ _ _ _) = refl
tells_cause (heading _ _ _ _ _) = refl
tells_cause (spare _ _ _ _ _ _) = refl

pub which : (c : Cutter) → Which c
unfolding refusal_of
which c =
    let cells = cells_ok c.grid c.trailing in
    record {
      place = in_place_of_3 cells (player_ok c) (creatures_ok c) (numbers_ok c) (creatures_fault c) (fault_clear c) (λ e. tells_cause (tells c (fault_clear c ∙ e)));
      told = cause_given (Tells c) cells (player_ok c) (creatures_fault c) (numbers_ok c) (tells c);
    }
