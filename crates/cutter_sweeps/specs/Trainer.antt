-- What a trainer tells after a sweep: how many cells changed, and how many numbers are left.
use Rattle.std.specs.Prelude.{not, cond, ℕ, zero, suc, eqb}
use mathlib.Core.List.{List, [], ◌∷◌, zip_with}
use Rattle.laws.specs.Lists.{any, count}
use Rattle.cutter_ground.specs.Cells.{CB_BLACK}

-- how many cells have another number
unfoldable pub changes : List ℕ → List ℕ → ℕ
changes L M = count (λ b. b) (zip_with (λ x y. not (eqb x y)) L M)

-- the numbers on black cells
unfoldable pub black_numbers : List ℕ → List ℕ → List ℕ
black_numbers [] L = []
black_numbers (x ∷ g) [] = []
black_numbers (x ∷ g) (v ∷ L) = cond (eqb x CB_BLACK) (v ∷ black_numbers g L) (black_numbers g L)

-- how many different numbers a list has
unfoldable pub kinds : List ℕ → ℕ
kinds [] = zero
kinds (x ∷ xs) = cond (any (eqb x) xs) (kinds xs) (suc (kinds xs))

abbrev pub numbers_left : List ℕ → List ℕ → ℕ
numbers_left g L = kinds (black_numbers g L)
