-- Numbers read from their bytes, and signed bytes. Assumes nothing.
use mathlib.Core.Path.{◌≡◌, ap}
use mathlib.Core.List.{List}
use Prim.Native.Nat.{ℕ, zero, suc, ◌+◌, ◌-◌, ◌*◌, ◌/◌, ◌^◌, ◌<◌, ◌≤◌}
use native.Mathlib.Nat.{div-div-eq-div-mul}
use native.Mathlib.Numerals.{add-one}
use native.Mathlib.Omega.{arith}
use Rattle.trace_words.specs.Numbers.{byte_at, word_at}

-- one byte more in front
pub word_more : (k at i : ℕ) (l : List ℕ) {n : ℕ} → at < i → i ≤ at + k → n ≡ word_at (at + k - i) i l → n * 256 + byte_at (i - 1) l ≡ word_at (at + k - (i - 1)) (i - 1) l
unfolding word_at
word_more k at i l h g e =
    let a : at + k - (i - 1) ≡ suc (at + k - i) = omega arith in
    let b : i - 1 + 1 ≡ i = omega arith in
    rw (a, b, ← e)

pub word_none : (k at : ℕ) (l : List ℕ) → 0 ≡ word_at (at + k - (at + k)) (at + k) l
unfolding word_at
word_none k at l = let a : at + k - (at + k) ≡ 0 = omega arith in rw a

-- a number of at most 7 bytes leaves room for one more
pub pow_up : (j : ℕ) → j ≤ 7 → 256 ^ j ≤ 256 ^ 7
pow_up zero h = omega arith
pow_up (suc zero) h = omega arith
pow_up (suc (suc zero)) h = omega arith
pow_up (suc (suc (suc zero))) h = omega arith
pow_up (suc (suc (suc (suc zero)))) h = omega arith
pow_up (suc (suc (suc (suc (suc zero))))) h = omega arith
pow_up (suc (suc (suc (suc (suc (suc zero)))))) h = omega arith
pow_up (suc (suc (suc (suc (suc (suc (suc zero))))))) h = omega arith
pow_up (suc (suc (suc (suc (suc (suc (suc (suc j)))))))) h = absurd (omega arith)

pub below_more : (k at i n b : ℕ) → at < i → i ≤ at + k → n < 256 ^ (at + k - i) → b < 256 → n * 256 + b < 256 ^ (at + k - (i - 1))
below_more k at i n b h g e f =
    let a : at + k - (i - 1) ≡ suc (at + k - i) = omega arith in
    rw a (omega arith)

pub pow_positive : (k at : ℕ) → 0 < 256 ^ (at + k - (at + k))
pow_positive k at = let a : at + k - (at + k) ≡ 0 = omega arith in rw a (omega arith)

-- the rest after one byte more
pub rest_more : (n i : ℕ) {rest : ℕ} → rest ≡ n / 256 ^ i → rest / 256 ≡ n / 256 ^ (i + 1)
rest_more n i e = rw (e, add-one i, div-div-eq-div-mul n (256 ^ i) 256) (ap (λ (k : ℕ). n / k) (omega arith))

pub rest-none : (n : ℕ) → n ≡ n / 256 ^ 0
rest-none n = omega arith
