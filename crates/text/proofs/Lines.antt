-- A line of numbers, put one number behind the other, and how long a line is. Assumes nothing.
use mathlib.Core.List.{List, [], ◌∷◌}
use mathlib.Core.Path.{◌≡◌}
use Prim.Native.Nat.{ℕ, ◌+◌, ◌*◌, ◌<◌, ◌≤◌}
use native.Mathlib.Omega.{arith}
use lib.Dec.{ltb}
use lib.ListN.{length, drop, get_or, set, length-append, drop_of_length-le}
use Rattle.refusal.specs.declared.Refusal.{Refusal}
use Rattle.refusal.specs.Refusal.{number_of, place_of}
use Rattle.laws.proofs.Lists.{drop-one}
use Rattle.laws.proofs.Choice.{cond_both}
use Rattle.text.specs.declared.Says.{Says}
use Rattle.text.specs.declared.Says.TheVariants.{Nothing, Numbers, Refused}
use Rattle.text.specs.Text.{SPACE, NEWLINE, DIGITS, NUMBERS, LINE, decimal, further, numbers_line, refused_line, line_of, PLACED, place_line}
use Rattle.text.specs.CodePuts.{Puts}
use Rattle.text.proofs.Decimal.{length-decimal}
use Rattle.text.proofs.Puts.{puts-both, puts_byte}

pub number-ends : (n : ℕ) {at end : ℕ} {l m : List ℕ} → Puts (decimal n) at l end m → end ≤ at + DIGITS
number-ends n p = omega (arith, p.ends, length-decimal DIGITS n)

module _ (ns : List ℕ) where
  -- the first number, and the rest of the line
  pub first_then : 0 < length ns → {at mid end : ℕ} {l m k : List ℕ} → Puts (decimal (get_or ns 0 0)) at l mid m → Puts (further (drop 1 ns)) mid m end k
      → Puts (numbers_line ns) at l end k
  unfolding numbers_line
  first_then h p q = rw (drop-one ns 0 0 h) (puts-both p q)

  module _ (i at : ℕ) (l : List ℕ) (room : at < length l) where
    -- a space and a number, and the rest of the line
    pub one_more : i < length ns → {mid end : ℕ} {m k : List ℕ} → Puts (decimal (get_or ns i 0)) (at + 1) (set l at SPACE) mid m
        → Puts (further (drop (i + 1) ns)) mid m end k → Puts (further (drop i ns)) at l end k
    unfolding further
    one_more h p q = rw (drop-one ns i 0 h) (puts-both (puts_byte l at SPACE room) (puts-both p q))

    pub no_more : length ns ≤ i → Puts (further (drop i ns)) at l (at + 1) (set l at NEWLINE)
    unfolding further
    no_more h = rw (drop_of_length-le ns h) (puts_byte l at NEWLINE room)

length-further : (ns : List ℕ) → length (further ns) ≤ (DIGITS + 1) * length ns + 1
unfolding further
length-further [] = omega arith
length-further (n ∷ ns) = simp length-append (omega (arith, length-decimal DIGITS n, length-further ns))

length-place : (r : Refusal) → length (place_line r) ≤ PLACED
unfolding place_line
length-place r =
    cond_both (λ (l : List ℕ). length l ≤ PLACED) (ltb (number_of r) 31) _ _ (λ _. omega arith)
    (λ _. simp length-append (omega (arith, length-decimal DIGITS (place_of r))))

-- a line has at most 147 bytes
pub length-line : (says : Says) (ns : List ℕ) → length ns ≡ NUMBERS → length (line_of says ns) ≤ LINE
unfolding line_of numbers_line refused_line
length-line Nothing ns e = omega arith
length-line Numbers [] e = omega arith
length-line Numbers (n ∷ ns) e = simp length-append (omega (arith, length-decimal DIGITS n, length-further ns))
length-line (Refused r) ns e = simp length-append (omega (arith, length-decimal DIGITS (number_of r), length-place r))
