-- A step from a cell of the grid ends on the grid or off it. Assumes nothing.
use Rattle.std.specs.Prelude.{Option, Some, None}
use mathlib.Core.Bool.{Bool, true}
use mathlib.Core.Path.{◌≡◌, subst}
use Prim.Native.Nat.{ℕ, ◌+◌, ◌-◌}
use native.Mathlib.Omega.{arith}
use lib.Dec.{ltb, eqb}
use borrow.Author.Tests.{ltb-true}
use Rattle.laws.proofs.Choice.{cond_both}
use Rattle.mine_state.specs.State.{W, H}
use Rattle.mine_state.specs.declared.Mine.{Mine}
use Rattle.mine_rules.specs.Ways.{cell_if, next_cell}
use Rattle.mine_state.specs.CodeState.{Sound}
use Rattle.mine_rules.specs.CodeWays.{OnGrid}
use Rattle.controls.specs.Keys.{UP, RIGHT, DOWN}

abbrev Inside : Option (ℕ × ℕ) → Type 0
Inside (Some (x, y)) = OnGrid x y
Inside None = Unit {0}

inside_if : (on : Bool) (x y : ℕ) → (on ≡ true → OnGrid x y) → Inside (cell_if on x y)
inside_if on x y f = cond_both Inside on (Some (x, y)) None f (λ _. tt)

step-inside : (d x y : ℕ) → OnGrid x y → Inside (next_cell d x y)
unfolding next_cell
step-inside d x y o =
    cond_both Inside (eqb d UP) _ _ (λ _. inside_if (ltb 0 y) x (y - 1) (λ t. record { across = o.across; down = omega (arith, o.down) }))
    (λ _. cond_both Inside (eqb d RIGHT) _ _ (λ _. inside_if (ltb (x + 1) W) (x + 1) y (λ t. record { across = ltb-true (x + 1) W t; down = o.down }))
    (λ _. cond_both Inside (eqb d DOWN) _ _ (λ _. inside_if (ltb (y + 1) H) x (y + 1) (λ t. record { across = o.across; down = ltb-true (y + 1) H t }))
    (λ _. inside_if (ltb 0 x) (x - 1) y (λ t. record { across = omega (arith, o.across); down = o.down }))))

pub next-inside : (d x y : ℕ) {bx by : ℕ} → OnGrid x y → next_cell d x y ≡ Some (bx, by) → OnGrid bx by
next-inside d x y o e = subst Inside e (step-inside d x y o)

-- the player's cell
pub home : {m : Mine} → Sound m → OnGrid m.px m.py
home s = record { across = s.home.0; down = s.home.1 }
