-- Block Mine: a move.
use Rattle.std.specs.Prelude.{Bool, cond, ◌||◌, ℕ, ◌+◌, leb, eqb, Option, Some, None}
use Rattle.found.specs.declared.Found.{Found}
use Rattle.mine_state.specs.declared.Mine.{Mine}
use Rattle.mine_state.specs.State.{EMPTY, DIRT, WALL, BOULDER, COIN, EXIT, code_at, first_at, free_at}
use Rattle.mine_state.specs.Change.{entered, with_cell, with_coins, killed, winner}
use Rattle.mine_rules.specs.Ways.{next_cell}
use Rattle.controls.specs.Keys.{RIGHT, LEFT}

-- exit: won if coins reach needed, no move
abbrev pub at_exit : Mine → Mine
at_exit m = cond (leb m.needed m.coins) (winner m) m

-- coin: one more in hand, entered
abbrev pub collected : Mine → ℕ → ℕ → Mine
collected m x y = entered (with_coins m (m.coins + 1)) x y

-- boulder: pushed if the next cell is on the grid, empty, without player or creature; marks don't change
abbrev pub pushed_to : Mine → ℕ → ℕ → Option (ℕ × ℕ) → Mine
pushed_to m x y (Some (bx, by)) = cond (free_at m bx by) (entered (with_cell m bx by BOULDER) x y) m
pushed_to m x y None = m

abbrev pub sideways : ℕ → Bool
sideways d = eqb d RIGHT || eqb d LEFT

-- sideways only
unfoldable pub pushed : Mine → ℕ → ℕ → ℕ → Mine
pushed m d x y = cond (sideways d) (pushed_to m x y (next_cell d x y)) m

-- wall: nothing; dirt or empty: dug and entered
unfoldable pub met : Mine → ℕ → ℕ → ℕ → Mine
met m d x y =
    let t : ℕ = code_at m x y in
    cond (eqb t WALL) m
    (cond (eqb t EXIT) (at_exit m)
    (cond (eqb t DIRT || eqb t EMPTY) (entered m x y)
    (cond (eqb t COIN) (collected m x y)
    (cond (eqb t BOULDER) (pushed m d x y) m))))

-- a creature there: dead, no move
abbrev pub meets : Mine → ℕ → ℕ → ℕ → Option Found → Mine
meets m d x y (Some f) = killed m
meets m d x y None = met m d x y

-- off the grid, nothing
abbrev pub moved_to : Mine → ℕ → Option (ℕ × ℕ) → Mine
moved_to m d None = m
moved_to m d (Some (x, y)) = meets m d x y (first_at m x y)

unfoldable pub moved : Mine → ℕ → Mine
moved m d = moved_to m d (next_cell d m.px m.py)
