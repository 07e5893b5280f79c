-- Who is at a cell, asked by its place, as the step asks it, and by x and y, as the question does: the same. Assumes nothing.
use Rattle.std.specs.Prelude.{Option}
use mathlib.Core.Bool.{Bool, true, cond, ◌&&◌}
use mathlib.Core.List.{List, [], ◌∷◌}
use mathlib.Core.Logic.{⊎_elim}
use mathlib.Core.Path.{◌≡◌, refl, ◌∙◌, ap, ap₂}
use Prim.Native.Nat.{ℕ, ◌+◌, ◌*◌, ◌<◌}
use native.Mathlib.Omega.{arith}
use lib.Dec.{eqb, ltb}
use borrow.Author.Tests.{eq-eqb, ne_eqb, ltb-true}
use Rattle.found.specs.First.{first_from, first}
use Rattle.found.specs.declared.Found.{Found}
use Rattle.found.specs.First.{At}
use Rattle.laws.specs.Lists.{all, count}
use Rattle.laws.proofs.Choice.{same?, and_left, and_right}
use Rattle.laws.proofs.Filter.{count_ext}
use Rattle.cutter_ground.specs.Cells.{CW, place}
use Rattle.cutter_ground.specs.Movers.{stands_at}
use Rattle.cutter_ground.specs.declared.Mover.{Mover}
use Rattle.cutter_rules.specs.Step.{is_at, creature_at}

-- two cells of the grid have one place where they are one cell
one_place : (a b x y : ℕ) → a < CW → x < CW → eqb (b * CW + a) (y * CW + x) ≡ eqb a x && eqb b y
one_place a b x y h k =
    ⊎_elim
    (λ p. ⊎_elim (λ q. rw (eq-eqb a x p, eq-eqb b y q) (eq-eqb (b * CW + a) (y * CW + x) (omega arith)))
    (λ q. rw (eq-eqb a x p, ne_eqb b y q) (ne_eqb (b * CW + a) (y * CW + x) (λ e. q (omega arith)))) (same? b y))
    (λ p. rw (ne_eqb a x p) (ne_eqb (b * CW + a) (y * CW + x) (λ e. p (omega arith))))
    (same? a x)

-- a creature on the ground's columns
abbrev pub within : Mover → Bool
within e = ltb e.x CW

module _ (x y : ℕ) (k : x < CW) where
  at_place : (e : Mover) → within e ≡ true → is_at (place x y) e ≡ stands_at x y e
  at_place e h = one_place e.x e.y x y (ltb-true e.x CW h) k

  from_place : (i : ℕ) (es : List Mover) → all within es ≡ true → first_from (is_at (place x y)) i es ≡ first_from (stands_at x y) i es
  from_place i [] h = refl
  from_place i (e ∷ es) h =
      let t = at_place e (and_left (within e) (all within es) h) in
      let n = count_ext (is_at (place x y)) (stands_at x y) within at_place (e ∷ es) h in
      let r = from_place (i + 1) es (and_right (within e) (all within es) h) in
      ap₂ (λ (b : Bool) (f : Option Found). cond b (At i (count (is_at (place x y)) (e ∷ es))) f) t r
      ∙ ap (λ (m : ℕ). cond (stands_at x y e) (At i m) (first_from (stands_at x y) (i + 1) es)) n

  pub who-place : (es : List Mover) → all within es ≡ true → creature_at es (place x y) ≡ first (stands_at x y) es
  who-place es h = from_place 0 es h
