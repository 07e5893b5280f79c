-- The regions by plain sweeps: give each black cell its own number, lower it to the least among its four neighbours, repeat until a sweep changes
-- nothing.
use Rattle.std.specs.Prelude.{◌≡◌, cond, List, ℕ, min, eqb, get_or, set}
use Rattle.laws.specs.Lists.{table, across}
use Rattle.cutter_ground.specs.Cells.{CN, CB_BLACK, cell_at, black_at, left_of, right_of, up_of, down_of}

-- each black cell's own number; CN for any other cell
abbrev pub own_of : ℕ → ℕ → ℕ
own_of cell c = cond (eqb cell CB_BLACK) c CN

unfoldable pub owns : List ℕ → List ℕ
owns g = table CN (λ c. own_of (cell_at g c) c)

-- v, or the number of d where d is black and its number is less
unfoldable pub lower : List ℕ → List ℕ → ℕ → ℕ → ℕ
lower g L d v = cond (black_at g d) (min (get_or L d CN) v) v

-- the least among a cell's number and its four neighbours'
unfoldable pub low : List ℕ → List ℕ → ℕ → ℕ
low g L c = lower g L (left_of c) (lower g L (right_of c) (lower g L (up_of c) (lower g L (down_of c) (get_or L c CN))))

-- a black cell's number becomes that
unfoldable pub lowered : List ℕ → List ℕ → ℕ → List ℕ
lowered g L c = cond (black_at g c) (set L c (low g L c)) L

-- a sweep: every cell, row by row, each with the numbers as they are when it is reached
unfoldable pub sweep : List ℕ → List ℕ → List ℕ
sweep g L = across (lowered g) CN 0 L

-- the numbers after some sweeps
pub data Sweeps (g : List ℕ) : List ℕ → Type 0 where
  begun : Sweeps g (owns g)
  again : {L : List ℕ} → Sweeps g L → Sweeps g (sweep g L)

-- until a sweep changes nothing
pub record Settled (g L : List ℕ) : Type 0 where
  pub reached : Sweeps g L
  pub still : sweep g L ≡ L
