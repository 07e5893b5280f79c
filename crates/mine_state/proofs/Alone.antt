-- In a well-formed mine the number at a cell is never above 1. Assumes nothing.
use mathlib.Core.Bool.{Bool, true, false, not}
use mathlib.Core.List.{List, [], ◌∷◌}
use mathlib.Core.Logic.{⊎_elim}
use mathlib.Core.Path.{◌≡◌, sym, ap, ◌∙◌, subst₂}
use Prim.Native.Nat.{ℕ, ◌≤◌}
use native.Mathlib.Omega.{arith}
use lib.Dec.{eqb}
use borrow.Author.Tests.{eqb-true, not-true}
use Rattle.laws.specs.Lists.{any, count}
use Rattle.laws.proofs.Choice.{and_left, and_right, bool_cases}
use Rattle.found.proofs.First.{nobody-any, number-count, nobody_zero}
use Rattle.mine_state.specs.declared.Enemy.{Enemy}
use Rattle.mine_state.specs.State.{creatures, stands_at}
use Rattle.mine_state.specs.WellFormed.{apart, Alone}

none-count : (f : Enemy → Bool) (l : List Enemy) → any f l ≡ false → count f l ≡ 0
none-count f l e = eqb-true (count f l) 0 (sym (nobody_zero f l) ∙ nobody-any f l ∙ ap not e)

apart-one : (x y : ℕ) (es : List Enemy) → apart es ≡ true → count (stands_at x y) es ≤ 1
apart-one x y [] h = omega arith
apart-one x y (e ∷ es) h =
    ⊎_elim
    (λ (s : stands_at x y e ≡ true).
    let n = not-true (any (stands_at e.x e.y) es) (and_left (not (any (stands_at e.x e.y) es)) (apart es) h) in
    let a = eqb-true e.x x (and_left (eqb e.x x) (eqb e.y y) s) in
    let b = eqb-true e.y y (and_right (eqb e.x x) (eqb e.y y) s) in
    let m = subst₂ (λ (u v : ℕ). any (stands_at u v) es ≡ false) a b n in
    rw s (omega (arith, none-count (stands_at x y) es m)))
    (λ (s : stands_at x y e ≡ false). rw s (apart-one x y es (and_right (not (any (stands_at e.x e.y) es)) (apart es) h)))
    (bool_cases (stands_at x y e))

pub alone : Alone
alone m x y w = omega (arith, number-count (stands_at x y) (creatures m), apart-one x y (creatures m) w.distinct)
