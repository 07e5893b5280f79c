-- What the walk's functions ask of the grid and of their tables. No promise cites it.
use Rattle.std.specs.Prelude.{List, ◌≡◌, ℕ, ◌<◌, length, replicate}
use Rattle.cutter_ground.specs.Cells.{CN}

-- a grid, and a cell of it
pub record Standing (g : List ℕ) (start : ℕ) : Type 0 where
  pub cells : length g ≡ CN
  pub inside : start < CN

-- cleared marks, and a queue of full length
pub record Cleared (g seen q : List ℕ) (start : ℕ) : Type 0 where
  pub cells : length g ≡ CN
  pub clear : seen ≡ replicate CN 0
  pub long : length q ≡ CN
  pub inside : start < CN
