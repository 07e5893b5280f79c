-- For the code alone: a cell of the grid, as the code asks it.
use Rattle.std.specs.Prelude.{◌<◌, ℕ}
use Rattle.mine_state.specs.State.{H, W}

pub record OnGrid (x y : ℕ) : Type 0 where
  pub across : x < W
  pub down : y < H
