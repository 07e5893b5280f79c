-- What the sweeps' functions ask of the grid and of their table, and what one sweep does.
use Rattle.std.specs.Prelude.{◌≡◌, List, ℕ, ◌+◌, ◌≤◌, ◌<◌, length}
use Rattle.cutter_ground.specs.Cells.{CN}
use Rattle.cutter_joined.proofs.Labels.{total}
use Rattle.cutter_sweeps.specs.Sweeps.{sweep, Sweeps}
use Rattle.cutter_sweeps.specs.Trainer.{changes}

pub record Numbers (g L : List ℕ) : Type 0 where
  pub cells : length g ≡ CN
  pub len : length L ≡ CN

pub record Lowest (g L : List ℕ) (at : ℕ) : Type 0 where
  pub numbers : Numbers g L
  pub inside : at < CN

-- one sweep makes M of L and changes n cells; each change brings the sum of the numbers down
pub record Swept (g L M : List ℕ) (n : ℕ) : Type 0 where
  pub is : M ≡ sweep g L
  pub len : length M ≡ CN
  pub many : n ≡ changes L M
  pub same : n ≡ 0 → M ≡ L
  pub falls : total M + n ≤ total L

-- a grid and its numbers after some sweeps
pub record Reached (g L : List ℕ) : Type 0 where
  pub cells : length g ≡ CN
  pub swept : Sweeps g L
