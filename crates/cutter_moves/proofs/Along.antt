-- The cells ahead by the sign of a velocity. Assumes nothing.
use mathlib.Core.Bool.{true, false, false≢true}
use mathlib.Core.Path.{◌≡◌, refl}
use Prim.Native.Nat.{ℕ, zero, suc}
use native.Mathlib.Omega.{arith}
use lib.IntN.{ℤ, pos, negsuc}
use lib.Signed.{lt_z}
use borrow.Author.Tests.{ltb-true, ltb-false}
use Rattle.cutter_state.specs.WellFormed.{is_unit}
use Rattle.cutter_rules.specs.Ahead.{along}
use Rattle.cutter_rules.specs.Tick.{flipped}

module _ (back on : ℕ → ℕ) (c : ℕ) where
  pub along-back : (v : ℤ) → lt_z v (pos 0) ≡ true → back c ≡ along back on v c
  unfolding along
  along-back (negsuc n) e = refl
  along-back (pos zero) e = let h = ltb-true zero 0 e in absurd (omega arith)
  along-back (pos (suc n)) e = let h = ltb-true (suc n) 0 e in absurd (omega arith)

  pub along_on : (v : ℤ) → lt_z (pos 0) v ≡ true → on c ≡ along back on v c
  unfolding along
  along_on (negsuc n) e = let z : ◌≡◌ {A = ℕ} 0 1 = cc in absurd (omega arith)
  along_on (pos zero) e = let h = ltb-true 0 zero e in absurd (omega arith)
  along_on (pos (suc n)) e = refl

  pub along-none : (v : ℤ) → lt_z v (pos 0) ≡ false → lt_z (pos 0) v ≡ false → c ≡ along back on v c
  unfolding along
  along-none (negsuc n) e f = let z : ◌≡◌ {A = ℕ} 0 1 = cc in absurd (omega arith)
  along-none (pos zero) e f = refl
  along-none (pos (suc n)) e f = let h = ltb-false 0 (suc n) f in absurd (omega arith)

  -- a unit that isn't negative points on
  pub along-unit : (v : ℤ) → is_unit v ≡ true → lt_z v (pos 0) ≡ false → on c ≡ along back on v c
  unfolding along
  along-unit (negsuc n) u e = let z : ◌≡◌ {A = ℕ} 0 1 = cc in absurd (omega arith)
  along-unit (pos zero) u e = absurd (false≢true u)
  along-unit (pos (suc n)) u e = refl

pub flip_back : (v : ℤ) → lt_z v (pos 0) ≡ true → pos 1 ≡ flipped v
unfolding flipped
flip_back (negsuc n) e = refl
flip_back (pos n) e = let h = ltb-true n 0 e in absurd (omega arith)

pub flip_on : (v : ℤ) → lt_z v (pos 0) ≡ false → negsuc 0 ≡ flipped v
unfolding flipped
flip_on (negsuc n) e = let z : ◌≡◌ {A = ℕ} 0 1 = cc in absurd (omega arith)
flip_on (pos n) e = refl
