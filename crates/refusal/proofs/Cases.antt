-- The order of faults, on slots that hold numbers: a creature is right as a 1, a blank slot holds 0. Computed; assumes nothing.
use mathlib.Core.List.{List, [], ◌∷◌}
use mathlib.Core.Path.{◌≡◌, refl}
use Prim.Native.Nat.{ℕ}
use lib.Dec.{eqb}
use Rattle.refusal.specs.Refusal.{Checked, NONE, TOO_MANY, WRONG_CELL, SPARE_SLOT, unless}
use Rattle.refusal.specs.Faults.{first_fault, fault_in}

abbrev over : List ℕ → ℕ → Checked
over slots n = fault_in 4 (λ i a. unless (eqb a 1) (WRONG_CELL i)) (λ a. eqb a 0) slots n

pub record Order : Type 0 where
  pub right : over (1 ∷ 1 ∷ 0 ∷ 0 ∷ []) 2 ≡ NONE
  pub many : over (5 ∷ 5 ∷ 5 ∷ 5 ∷ []) 5 ≡ TOO_MANY
  pub first : over (1 ∷ 5 ∷ 5 ∷ 1 ∷ []) 4 ≡ WRONG_CELL 1
  pub creature : over (1 ∷ 5 ∷ 5 ∷ 0 ∷ []) 2 ≡ WRONG_CELL 1
  pub slot : over (1 ∷ 0 ∷ 5 ∷ 5 ∷ []) 1 ≡ SPARE_SLOT 2

pub order : Order
unfolding fault_in first_fault
order = record { right = refl; many = refl; first = refl; creature = refl; slot = refl }
