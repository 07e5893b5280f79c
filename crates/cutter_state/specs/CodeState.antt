-- For the code alone: a cell that needs no test of the edges.
use Rattle.std.specs.Prelude.{◌+◌, ◌<◌, ℕ}
use Rattle.cutter_ground.specs.Cells.{CH, CW}

-- (x, y) lies inside the outer ring: its eight neighbours are on the grid
pub record Inside (x y : ℕ) : Type 0 where
  pub left : 0 < x
  pub right : x + 1 < CW
  pub top : 0 < y
  pub bottom : y + 1 < CH
