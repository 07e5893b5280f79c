-- Block Cutter: how the code claims the ring, column by column. No promise cites it.
use Rattle.std.specs.Prelude.{List, ℕ, ◌+◌, ◌-◌, ◌*◌, set}
use Rattle.cutter_ground.specs.Cells.{CW, CB_FILLED}

-- the cell y of the first and of the last column
unfoldable pub claim_column : List ℕ → ℕ → List ℕ
claim_column g y = set (set g (y * CW) CB_FILLED) (y * CW + CW - 1) CB_FILLED
