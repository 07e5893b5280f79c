-- A rule of every number below n, by one test that antt computes. Assumes nothing.
use mathlib.Core.Path.{◌≡◌, refl, subst, sym, ap, ap₂, ◌∙◌}
use mathlib.Core.Bool.{Bool, true, ◌&&◌}
use Prim.Native.Nat.{ℕ, zero, suc, ◌+◌, ◌<◌}
use native.Mathlib.Nat.{not-suc-le-zero}
use native.Mathlib.Decide.{dec_lt}
use native.Mathlib.Numerals.{add-one}
use native.Mathlib.Omega.{arith}
use lib.Dec.{eqb}
use borrow.Author.Tests.{eqb-true}
use Rattle.laws.specs.Lists.{all_below}
use Rattle.laws.proofs.Choice.{and_left, and_right, and_both}

pub at_below : (n : ℕ) (p : ℕ → Bool) → all_below n p ≡ true → (k : ℕ) → k < n → p k ≡ true
at_below zero p t k h = absurd (not-suc-le-zero h)
at_below (suc n) p t k h =
    elim (dec_lt k n) [
      | yes l ↦ at_below n p (and_right (p n) (all_below n p) t) k l
      | no l ↦ subst (λ (i : ℕ). p i ≡ true) (omega arith) (and_left (p n) (all_below n p) t)
    ]

pub all-below : (n : ℕ) (p : ℕ → Bool) → ((k : ℕ) → k < n → p k ≡ true) → all_below n p ≡ true
all-below zero p f = refl
all-below (suc n) p f = and_both (p n) (all_below n p) (f n (omega arith)) (all-below n p (λ k h. f k (omega arith)))

-- two functions that agree below n, by one test
pub same-below : (n : ℕ) (f g : ℕ → ℕ) → all_below n (λ k. eqb (f k) (g k)) ≡ true → (k : ℕ) → k < n → f k ≡ g k
same-below n f g t k h = eqb-true (f k) (g k) (at_below n (λ i. eqb (f i) (g i)) t k h)

-- A loop that tests each number: ok so far, and the next one.
pub below_turn : (p : ℕ → Bool) (k : ℕ) {b ok : Bool} → b ≡ p k → ok ≡ all_below k p → (b && ok) ≡ all_below (k + 1) p
below_turn p k e f = ap₂ ◌&&◌ e f ∙ ap (λ (n : ℕ). all_below n p) (sym (add-one k))
