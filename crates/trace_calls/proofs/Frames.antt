-- The frame before its picture. Assumes nothing.
use mathlib.Core.List.{List, ◌∷◌}
use mathlib.Core.Path.{◌≡◌, refl, ap, ◌∙◌}
use Prim.Native.Nat.{ℕ, zero, suc, ◌≤◌}
use native.Mathlib.Nat.{le_of_suc-le-suc, not-suc-le-zero}
use lib.ListN.{length, take, replicate, length-replicate}
use Rattle.trace_calls.specs.Shared.{MOST, STALE, stale_of}

take-replicate : (n m a : ℕ) → n ≤ m → take n (replicate m a) ≡ replicate n a
take-replicate zero m a h = refl
take-replicate (suc n) zero a h = absurd (not-suc-le-zero h)
take-replicate (suc n) (suc m) a h = ap (λ (l : List ℕ). a ∷ l) (take-replicate n m a (le_of_suc-le-suc h))

module _ (d : List ℕ) (e : d ≡ stale_of MOST) where
  pub stale_long : length d ≡ MOST
  stale_long = ap length e ∙ length-replicate {A = ℕ} MOST STALE

  pub stale_part : (n : ℕ) → n ≤ MOST → take n d ≡ stale_of n
  stale_part n h = ap (take n) e ∙ take-replicate n MOST STALE h
