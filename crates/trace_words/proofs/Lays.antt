-- Bytes laid one behind the other. Assumes nothing.
use mathlib.Core.List.{List, [], ◌++◌, append_assoc, append-nil}
use mathlib.Core.Path.{◌≡◌, refl, sym, ap, ◌∙◌, subst}
use Prim.Native.Nat.{ℕ, ◌+◌}
use native.Mathlib.Nat.{add-zero, zero-add, add_assoc}
use native.Mathlib.Omega.{arith}
use lib.ListN.{length, take, length-append}
use lib.Seq.{take_all}
use Rattle.trace_words.specs.CodeLays.{Lays}

pub lays-none : (at : ℕ) (l : List ℕ) → Lays [] 0 at l l
lays-none at l = record { long = refl; size = refl; holds = rw (add-zero at) (sym (append-nil (take at l))) }

pub lays-both : {s t : List ℕ} {j k at : ℕ} {l m n : List ℕ} → Lays s j at l m → Lays t k (at + j) m n → Lays (s ++ t) (j + k) at l n
lays-both {s} {t} {j} {k} {at} {l} p q =
    record {
      long = length-append s t ∙ omega (arith, p.long, q.long);
      size = q.size ∙ p.size;
      holds = rw (← add_assoc at j k) (q.holds ∙ ap (λ (x : List ℕ). x ++ t) p.holds ∙ append_assoc (take at l) s t);
    }

-- the same text, told otherwise
pub lays_as : {s t : List ℕ} {j k at : ℕ} {l m : List ℕ} → s ≡ t → j ≡ k → Lays s j at l m → Lays t k at l m
lays_as {s} {t} {j} {k} {at} {l} {m} e f p = subst (λ (n : ℕ). Lays t n at l m) f (subst (λ (x : List ℕ). Lays x j at l m) e p)

-- a buffer that is filled
pub lays-whole : {t : List ℕ} {k : ℕ} {l m : List ℕ} → length l ≡ k → Lays t k 0 l m → m ≡ t
lays-whole {t} {k} {l} {m} e p = sym (take_all k m (omega (arith, p.size))) ∙ (rw (zero-add k) at p.holds)
