-- Texts put one behind the other. Assumes nothing.
use mathlib.Core.List.{List, [], ◌∷◌, ◌++◌, append_assoc, append-nil}
use mathlib.Core.Path.{◌≡◌, refl, sym, ap, ◌∙◌}
use Prim.Native.Nat.{ℕ, ◌+◌, ◌<◌, ◌≤◌}
use native.Mathlib.Numerals.{add-one}
use native.Mathlib.Omega.{arith}
use lib.ListN.{length, take, set, length-append, length-take, length-set}
use lib.Seq.{take-suc-set}
use Rattle.text.specs.CodePuts.{Puts}

pub puts_none : (at : ℕ) (l : List ℕ) → Puts [] at l at l
puts_none at l = record { ends = omega arith; size = refl; holds = sym (append-nil (take at l)) }

pub puts-both : {s t : List ℕ} {at mid end : ℕ} {l m n : List ℕ} → Puts s at l mid m → Puts t mid m end n → Puts (s ++ t) at l end n
puts-both {s} {t} {at} {mid} {end} {l} p q =
    record {
      ends = simp length-append (omega (arith, p.ends, q.ends));
      size = q.size ∙ p.size;
      holds = q.holds ∙ ap (λ (x : List ℕ). x ++ t) p.holds
          ∙ append_assoc (take at l) s t;
    }

-- a byte stored at the end
pub puts_byte : (l : List ℕ) (at b : ℕ) → at < length l → Puts (b ∷ []) at l (at + 1) (set l at b)
puts_byte l at b h = record { ends = refl; size = length-set l at b; holds = rw add-one (take-suc-set l at b h) }

-- a text at the start of a buffer is as long as it says, and within it
module _ {t : List ℕ} {l : List ℕ} {end : ℕ} {m : List ℕ} (p : Puts t 0 l end m) where
  pub puts-length : end ≡ length (take end m)
  puts-length = omega (arith, p.ends, ap length p.holds)

  pub puts-within : end ≤ length m
  puts-within = omega (arith, puts-length, length-take end m)
