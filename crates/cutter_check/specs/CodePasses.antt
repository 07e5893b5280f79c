-- What the check's passes over the cells and the creatures ask and answer. No promise cites it.
use Rattle.std.specs.Prelude.{cond, List, [], ◌∷◌, ◌≡◌, ℕ, ◌≤◌, ltb, length}
use Rattle.cutter_ground.specs.Cells.{CN}
use Rattle.cutter_ground.specs.Movers.{MAX_ENEMIES}

-- the largest of m and the codes of a list
unfoldable pub largest_of : ℕ → List ℕ → ℕ
largest_of m [] = m
largest_of m (k ∷ g) = largest_of (cond (ltb m k) k m) g

-- a lent grid, and the number of creatures
pub record Counted (g : List ℕ) (n : ℕ) : Type 0 where
  pub cells : length g ≡ CN
  pub few : n ≤ MAX_ENEMIES
