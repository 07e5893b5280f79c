-- Block Mine: the cell one step away.
use Rattle.std.specs.Prelude.{Bool, cond, ℕ, ◌+◌, ◌-◌, ltb, eqb, Option, Some, None}
use Rattle.mine_state.specs.State.{W, H}
use Rattle.controls.specs.Keys.{UP, RIGHT, DOWN}

-- a cell of the grid, or none: off it
abbrev pub cell_if : Bool → ℕ → ℕ → Option (ℕ × ℕ)
cell_if on x y = cond on (Some (x, y)) None

-- one step from (x, y)
unfoldable pub next_cell : ℕ → ℕ → ℕ → Option (ℕ × ℕ)
next_cell d x y =
    cond (eqb d UP) (cell_if (ltb 0 y) x (y - 1))
    (cond (eqb d RIGHT) (cell_if (ltb (x + 1) W) (x + 1) y)
    (cond (eqb d DOWN) (cell_if (ltb (y + 1) H) x (y + 1))
    (cell_if (ltb 0 x) (x - 1) y)))
