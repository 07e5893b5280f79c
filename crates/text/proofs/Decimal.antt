-- A number's digits as `io` writes them are its decimal. Assumes nothing.
use mathlib.Core.List.{List}
use mathlib.Core.Path.{◌≡◌}
use Prim.Native.Nat.{ℕ, zero, suc, ◌-◌, ◌/◌, ◌%◌, ◌^◌, ◌≤◌, ◌<◌}
use native.Mathlib.Omega.{arith}
use borrow.Author.Tests.{lt-ltb, le-ltb}
use lib.Dec.{ltb}
use lib.ListN.{length, length-append}
use Rattle.laws.proofs.Choice.{cond_both}
use Rattle.io.specs.Digits.{last_digits, IsDigitCount, hex_digit_ascii}
use Rattle.text.specs.Text.{digit, decimal_in, decimal}

glyph_digit : (n : ℕ) → n < 10 → hex_digit_ascii n ≡ digit n
glyph_digit n h = rw (lt-ltb n 10 h)

less_one : (k : ℕ) → suc k - 1 ≡ k
less_one k = omega arith

pow_positive : (r : ℕ) → 1 ≤ 10 ^ r
pow_positive zero = omega arith
pow_positive (suc r) = omega (arith, pow_positive r)

digits_decimal : (k r n : ℕ) → n < 10 ^ suc k → IsDigitCount 10 1 n r → last_digits 10 r n ≡ decimal_in (suc k) n
unfolding decimal_in
digits_decimal k zero n h f = absurd (let q : ⊥ = omega (arith, f.0) in q)
digits_decimal k (suc zero) n h f = let l : n < 10 = omega (arith, f.1) in let e : n % 10 ≡ n = omega arith in rw (lt-ltb n 10 l, e, lt-ltb n 10 l)
digits_decimal zero (suc (suc r)) n h f = let g : 10 ^ suc r ≤ n = rw (less_one (suc r)) at (f.2 (omega arith)) in absurd (let q : ⊥ = omega (arith, pow_positive r) in q)
digits_decimal (suc k) (suc (suc r)) n h f =
    let g : 10 ^ suc r ≤ n = rw (less_one (suc r)) at (f.2 (omega arith)) in
    let l : 10 ≤ n = omega (arith, pow_positive r) in
    rw (le-ltb n 10 l, digits_decimal k (suc r) (n / 10) (omega arith) (omega arith, omega (arith, f.1), λ z. rw (less_one r) (omega arith)), glyph_digit (n % 10) (omega arith))

-- a number of 64 bits has at most 20 digits
pub digits_are : (r n : ℕ) → n < 2 ^ 64 → IsDigitCount 10 1 n r → last_digits 10 r n ≡ decimal n
digits_are r n h f = digits_decimal 19 r n (omega arith) f

pub length-decimal : (k n : ℕ) → length (decimal_in k n) ≤ k
unfolding decimal_in
length-decimal zero n = omega arith
length-decimal (suc k) n = cond_both (λ (l : List ℕ). length l ≤ suc k) (ltb n 10) _ _ (λ _. omega arith) (λ _. simp length-append (omega (arith, length-decimal k (n / 10))))
