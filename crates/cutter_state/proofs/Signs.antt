-- Signed numbers of eight bits: what a test of the bits that a local holds says of the number. Assumes nothing.
use mathlib.Core.Bool.{Bool, true, false, ◌&&◌, ◌||◌}
use mathlib.Core.Path.{◌≡◌, refl, ap, subst}
use Prim.Native.Nat.{ℕ, zero, suc, ◌+◌, ◌-◌, ◌<◌}
use native.Mathlib.Omega.{arith}
use lib.Dec.{eqb, leb}
use lib.IntN.{ℤ, pos, negsuc, nat_abs}
use lib.Signed.{mag, lt_z}
use mir.Syntax.{w8}
use mir.Val.{SFits, to_z, of_z}
use mir.Facts.{to_z-of_z}
use borrow.Author.Tests.{eqb-true, eqb-false, ne_eqb, lt-leb}
use Rattle.std.specs.Ordering.{int_eq}
use Rattle.std.proofs.lemmas.Bool.Decides.{Decides-int_eq, same_from_decides}
use Rattle.cutter_state.specs.WellFormed.{is_zero, is_unit, direction_ok}

-- a number comes back from its eight bits
pub kept : (v : ℤ) → mag v < 128 → to_z w8 (of_z w8 v) ≡ v
kept v h = to_z-of_z {w = w8} {z = v} (record { sfits = h })

module _ (v : ℤ) (f : SFits w8 v) where
  -- a test of the sign
  pub below : {b : Bool} → lt_z (to_z w8 (of_z w8 v)) (pos 0) ≡ b → lt_z v (pos 0) ≡ b
  below {b} e = subst (λ (z : ℤ). lt_z z (pos 0) ≡ b) (to_z-of_z f) e

  pub above : {b : Bool} → lt_z (pos 0) (to_z w8 (of_z w8 v)) ≡ b → lt_z (pos 0) v ≡ b
  above {b} e = subst (λ (z : ℤ). lt_z (pos 0) z ≡ b) (to_z-of_z f) e

-- a number is 0: what `==` answers
zero_at : (v : ℤ) → is_zero v ≡ true → v ≡ pos 0
zero_at (pos zero) e = refl
zero_at (pos (suc n)) e = absurd (omega (arith, eqb-true (suc n) 0 e))
zero_at (negsuc n) e = absurd (omega (arith, eqb-true (suc n) 0 e))

pub zero_eq : (v : ℤ) → int_eq v (pos 0) ≡ is_zero v
zero_eq v = same_from_decides (int_eq v (pos 0)) (is_zero v) (Decides-int_eq v (pos 0)) (zero_at v, λ e. ap is_zero e)

pub unit_bits : (v : ℤ) → SFits w8 v → (eqb (of_z w8 v) 1 || eqb (of_z w8 v) 255) ≡ is_unit v
unit_bits (pos zero) f = refl
unit_bits (pos (suc zero)) f = refl
unit_bits (pos (suc (suc n))) f = let h : suc (suc n) < 128 = f.sfits in simp (ne_eqb (suc (suc n)) 1 (λ e. omega arith), ne_eqb (suc (suc n)) 255 (λ e. omega arith))
unit_bits (negsuc zero) f = refl
unit_bits (negsuc (suc n)) f =
    let h : suc n < 128 = f.sfits in
    simp (ne_eqb (256 - suc (suc n)) 1 (λ e. omega arith), ne_eqb (256 - suc (suc n)) 255 (λ e. omega arith), ne_eqb (suc (suc n)) 1 (λ e. omega arith))

-- a direction, by whether its first part is 0
small : (a b : ℕ) → a ≡ 0 → (eqb b 0 || eqb b 1) ≡ leb (a + b) 1
small zero zero e = refl
small zero (suc zero) e = refl
small zero (suc (suc b)) e = simp (ne_eqb (suc (suc b)) 0 (λ z. omega arith), ne_eqb (suc (suc b)) 1 (λ z. omega arith), lt-leb (0 + suc (suc b)) 1 (omega arith))
small (suc a) b e = absurd (omega arith)

large : (a b : ℕ) → (a ≡ 0 → ⊥) → (eqb a 1 && eqb b 0) ≡ leb (a + b) 1
large zero b e = absurd (e refl)
large (suc zero) zero e = refl
large (suc zero) (suc b) e = simp (ne_eqb (suc b) 0 (λ z. omega arith), lt-leb (suc zero + suc b) 1 (omega arith))
large (suc (suc a)) b e = simp (ne_eqb (suc (suc a)) 1 (λ z. omega arith), lt-leb (suc (suc a) + b) 1 (omega arith))

pub direction-down : (dx dy : ℤ) → is_zero dx ≡ true → (is_zero dy || is_unit dy) ≡ direction_ok dx dy
direction-down dx dy e = small (nat_abs dx) (nat_abs dy) (eqb-true (nat_abs dx) 0 e)

pub direction-across : (dx dy : ℤ) → is_zero dx ≡ false → (is_unit dx && is_zero dy) ≡ direction_ok dx dy
direction-across dx dy e = large (nat_abs dx) (nat_abs dy) (eqb-false (nat_abs dx) 0 e)
