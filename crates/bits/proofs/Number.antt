-- The laws of `number`: a number by its bits. One law for each operation, over the number of bits. Assumes nothing.
use mathlib.Core.Path.{◌≡◌, refl, sym, ap, ap₂, ◌∙◌}
use mathlib.Core.Bool.{Bool, true, false, ◌||◌, ◌&&◌, not, xor}
use Prim.Native.Nat.{ℕ, zero, suc, ◌+◌, ◌-◌, ◌*◌, ◌/◌, ◌%◌, ◌^◌, ◌≤◌, ◌<◌}
use native.Mathlib.Nat.{pow-suc, add-zero, add-suc, add-mul, add_assoc, mul_assoc, mul_comm, mod-one, mod-eq_of_lt}
use native.Mathlib.Numerals.{add-one, one-add}
use native.Mathlib.Omega.{arith}
use lib.Dec.{eqb}
use lib.Pow.{shl_exact, pow-add, mod-pow-add, high, low}
use lib.Bits.{bit_and, bit_or, bit_xor, or_block, and_block, xor_block, or_shifted_r, and_mask}
use Rattle.laws.specs.Lists.{bit}
use Rattle.bits.specs.Bits.{number, bit_at}

bit_lt : (b : Bool) → bit b < 2
bit_lt true = omega arith
bit_lt false = omega arith

bit_shift : (b : Bool) (k : ℕ) → bit b * k ≤ k
bit_shift true k = omega arith
bit_shift false k = omega arith

pub number_lt : (n : ℕ) (f : ℕ → Bool) → number n f < 2 ^ n
unfolding number
number_lt zero f = omega arith
number_lt (suc n) f = omega (arith, number_lt n f, pow-suc 2 n, bit_shift (f n) (2 ^ n))

-- the odd-or-even digit as a Bool and back
odd : (n : ℕ) → n < 2 → bit (eqb n 1) ≡ n
odd zero h = refl
odd (suc zero) h = refl
odd (suc (suc n)) h = absurd (omega arith)

pub bit_of : (n k : ℕ) → bit (bit_at n k) ≡ n / 2 ^ k % 2
bit_of n k = odd (n / 2 ^ k % 2) (omega arith)

-- each operation, bit by bit
module _ (op : ℕ → ℕ → ℕ) (opb : Bool → Bool → Bool)
    (block : (k a b r s : ℕ) → r < 2 ^ k → s < 2 ^ k → op (a * 2 ^ k + r) (b * 2 ^ k + s) ≡ op a b * 2 ^ k + op r s)
    (zeros : op 0 0 ≡ 0)
    (one : (a b : Bool) → op (bit a) (bit b) ≡ bit (opb a b)) where
  number_op : (n : ℕ) (f g : ℕ → Bool) → op (number n f) (number n g) ≡ number n (λ j. opb (f j) (g j))
  unfolding number
  number_op zero f g = zeros
  number_op (suc n) f g =
      block n (bit (f n)) (bit (g n)) (number n f) (number n g) (number_lt n f) (number_lt n g)
      ∙ ap₂ (λ (x y : ℕ). x * 2 ^ n + y) (one (f n) (g n)) (number_op n f g)

or_one : (a b : Bool) → bit_or (bit a) (bit b) ≡ bit (a || b)
or_one true true = refl
or_one true false = refl
or_one false b = refl

and_one : (a b : Bool) → bit_and (bit a) (bit b) ≡ bit (a && b)
and_one true true = refl
and_one true false = refl
and_one false b = refl

xor_one : (a b : Bool) → bit_xor (bit a) (bit b) ≡ bit (xor a b)
unfolding xor
xor_one true true = refl
xor_one true false = refl
xor_one false true = refl
xor_one false false = refl

pub number_or : (n : ℕ) (f g : ℕ → Bool) → bit_or (number n f) (number n g) ≡ number n (λ j. f j || g j)
number_or = number_op bit_or ◌||◌ or_block refl or_one

pub number_and : (n : ℕ) (f g : ℕ → Bool) → bit_and (number n f) (number n g) ≡ number n (λ j. f j && g j)
number_and = number_op bit_and ◌&&◌ and_block refl and_one

pub number_xor : (n : ℕ) (f g : ℕ → Bool) → bit_xor (number n f) (number n g) ≡ number n (λ j. xor (f j) (g j))
number_xor = number_op bit_xor xor xor_block refl xor_one

-- only the bits below n count
pub number_ext : (n : ℕ) (f g : ℕ → Bool) → ((j : ℕ) → j < n → f j ≡ g j) → number n f ≡ number n g
unfolding number
number_ext zero f g h = refl
number_ext (suc n) f g h =
    ap₂ (λ (b : Bool) (y : ℕ). bit b * 2 ^ n + y) (h n (omega arith)) (number_ext n f g (λ j l. h j (omega arith)))

-- one more bit, put on top by `|` and a shift
pub number_more : (n : ℕ) (f : ℕ → Bool) → n < 8 → bit_or (number n f) (bit (f n) * 2 ^ n % 2 ^ 8) ≡ number (n + 1) f
unfolding number
number_more n f h =
    ap (bit_or (number n f)) (shl_exact 1 n 8 (bit_lt (f n)) (omega arith))
    ∙ or_shifted_r (bit (f n)) n (number n f) (number_lt n f)
    ∙ ap (λ (k : ℕ). number k f) (sym (add-one n))

-- bit k of v, taken by a shift and a mask
pub masked : (v k : ℕ) → bit_and (v / 2 ^ k) 1 ≡ bit (bit_at v k)
masked v k = and_mask (v / 2 ^ k) 1 ∙ sym (bit_of v k)

pub number-none : (n : ℕ) → number n (λ j. false) ≡ 0
unfolding number
number-none zero = refl
number-none (suc n) = omega (arith, number-none n)

-- two layers of ink on a third
pub number_layers : (n : ℕ) (f g h : ℕ → Bool) → bit_or (bit_or (number n f) (number n g)) (number n h) ≡ number n (λ j. f j || g j || h j)
number_layers n f g h = ap (λ (x : ℕ). bit_or x (number n h)) (number_or n f g) ∙ number_or n (λ j. f j || g j) h

-- ---- more than one bit at a time

-- n low bits, then m more
pub number_cat : (n m : ℕ) (f : ℕ → Bool) → number (n + m) f ≡ number m (λ k. f (n + k)) * 2 ^ n + number n f
unfolding number
number_cat n zero f = rw add-zero (omega arith)
number_cat n (suc m) f =
    rw add-suc
    (ap (λ (x : ℕ). bit (f (n + m)) * 2 ^ (n + m) + x) (number_cat n m f)
    ∙ ap (λ (x : ℕ). x + (number m (λ k. f (n + k)) * 2 ^ n + number n f))
    (ap (λ (x : ℕ). bit (f (n + m)) * x) (pow-add 2 n m ∙ mul_comm (2 ^ n) (2 ^ m)) ∙ sym (mul_assoc (bit (f (n + m))) (2 ^ m) (2 ^ n)))
    ∙ sym (add_assoc (bit (f (n + m)) * 2 ^ m * 2 ^ n) (number m (λ k. f (n + k)) * 2 ^ n) (number n f))
    ∙ ap (λ (x : ℕ). x + number n f) (sym (add-mul (bit (f (n + m)) * 2 ^ m) (number m (λ k. f (n + k))) (2 ^ n))))

-- m more bits, put on top by `|` and a shift
pub number-above : (n m : ℕ) (f : ℕ → Bool) → n + m ≤ 8 → bit_or (number n f) (number m (λ k. f (n + k)) * 2 ^ n % 2 ^ 8) ≡ number (n + m) f
number-above n m f h =
    ap (bit_or (number n f)) (shl_exact m n 8 (number_lt m (λ k. f (n + k))) (omega arith))
    ∙ or_shifted_r (number m (λ k. f (n + k))) n (number n f) (number_lt n f)
    ∙ sym (number_cat n m f)

-- every bit the other way
not-sum : (n : ℕ) (f : ℕ → Bool) → number n f + number n (λ j. not (f j)) + 1 ≡ 2 ^ n
unfolding number
not-sum zero f = refl
not-sum (suc n) f = go (f n) (not-sum n f)
  where
    go : (b : Bool) → number n f + number n (λ j. not (f j)) + 1 ≡ 2 ^ n → bit b * 2 ^ n + number n f + (bit (not b) * 2 ^ n + number n (λ j. not (f j))) + 1 ≡ 2 ^ suc n
    go true e = omega (arith, pow-suc 2 n)
    go false e = omega (arith, pow-suc 2 n)

pub number-not : (n : ℕ) (f : ℕ → Bool) → 2 ^ n - 1 - number n f ≡ number n (λ j. not (f j))
number-not n f = omega (arith, not-sum n f)

-- a byte is the number of its bits
pub number_of : (n v : ℕ) → number n (bit_at v) ≡ v % 2 ^ n
unfolding number
number_of zero v = sym (mod-one v)
number_of (suc n) v =
    ap₂ (λ (x y : ℕ). x * 2 ^ n + y) (bit_of v n) (number_of n v) ∙ sym (mod-pow-add v 1 n) ∙ ap (λ (k : ℕ). v % 2 ^ k) (one-add n)

pub byte_of_lem : (v : ℕ) → v < 256 → v ≡ number 8 (bit_at v)
byte_of_lem v h = sym (number_of 8 v ∙ mod-eq_of_lt h)

-- and bit k of a number is the k-th of its bits
is_one : (b : Bool) → eqb (bit b) 1 ≡ b
is_one true = refl
is_one false = refl

lowest : (m : ℕ) (f : ℕ → Bool) → number (1 + m) f % 2 ≡ bit (f 0)
unfolding number
lowest m f = rw (number_cat 1 m f) (low (number m (λ k. f (1 + k))) 1 {lo = bit (f 0) * 1 + 0} (omega (arith, bit_lt (f 0))) ∙ omega arith)

bit_number+ : (k m : ℕ) (f : ℕ → Bool) → bit_at (number (k + (1 + m)) f) k ≡ f k
bit_number+ k m f =
    rw (number_cat k (1 + m) f, high (number (1 + m) (λ i. f (k + i))) k (number_lt k f), lowest m (λ i. f (k + i)), add-zero k) (is_one (f k))

pub bit-number : (n : ℕ) (f : ℕ → Bool) (k : ℕ) → k < n → bit_at (number n f) k ≡ f k
bit-number n f k h =
    let e : k + (1 + (n - (k + 1))) ≡ n = omega arith in
    rw e at (bit_number+ k (n - (k + 1)) f)

-- ink on ink, then some bits inverted, then some cleared
pub number-marked : (n : ℕ) (a b c d : ℕ → Bool)
    → bit_and (bit_xor (bit_or (number n a) (number n b)) (number n c)) (2 ^ n - 1 - number n d) ≡ number n (λ j. xor (a j || b j) (c j) && not (d j))
number-marked n a b c d =
    ap₂ bit_and (ap (λ (x : ℕ). bit_xor x (number n c)) (number_or n a b) ∙ number_xor n (λ j. a j || b j) c) (number-not n d)
    ∙ number_and n (λ j. xor (a j || b j) (c j)) (λ j. not (d j))
