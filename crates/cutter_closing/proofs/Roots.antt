-- The regions from a cell on, by their earliest cells. Assumes nothing.
use mathlib.Core.Path.{◌≡◌, refl}
use mathlib.Core.Bool.{true, false≢true}
use mathlib.Core.List.{List, [], ◌∷◌}
use mathlib.Core.Logic.{⊎_elim}
use Prim.Native.Nat.{ℕ, zero, suc, ◌+◌, ◌<◌}
use native.Mathlib.Omega.{arith}
use borrow.Author.Tests.{eq-eqb, ne_eqb, eqb-true}
use lib.Dec.{eqb}
use lib.ListN.{length, take}
use Rattle.laws.specs.Lists.{any}
use Rattle.laws.proofs.Choice.{same?, or_cases}
use Rattle.cutter_closing.specs.Counted.{roots_from, counted}

-- a list of labels with a region's earliest cell in front, and with another cell
pub roots_none : (c : ℕ) → roots_from c [] ≡ []
unfolding roots_from
roots_none c = refl

pub roots_root : (c l : ℕ) (ls : List ℕ) → l ≡ c → roots_from c (l ∷ ls) ≡ c ∷ roots_from (suc c) ls
unfolding roots_from
roots_root c l ls e = rw (eq-eqb l c e)

pub roots_pass : (c l : ℕ) (ls : List ℕ) → (l ≡ c → ⊥) → roots_from c (l ∷ ls) ≡ roots_from (suc c) ls
unfolding roots_from
roots_pass c l ls e = rw (ne_eqb l c e)

roots_below : (limit x c : ℕ) (ls : List ℕ) → any (eqb x) (take limit (roots_from c ls)) ≡ true → x < c + length ls
roots_below zero x c ls h = absurd (false≢true h)
roots_below (suc m) x c [] h = absurd (false≢true (rw (roots_none c) at h))
roots_below (suc m) x c (l ∷ ls) h =
    ⊎_elim
    (λ e. ⊎_elim (λ t. let z = eqb-true x c t in omega arith) (λ t. let z = roots_below m x (suc c) ls t in omega arith)
    (or_cases (eqb x c) (any (eqb x) (take m (roots_from (suc c) ls))) (rw (roots_root c l ls e) at h)))
    (λ e. let z = roots_below (suc m) x (suc c) ls (rw (roots_pass c l ls e) at h) in omega arith) (same? l c)

-- a counted region begins at a cell of the list
pub counted-below : (limit : ℕ) (L : List ℕ) (l : ℕ) → any (eqb l) (counted limit L) ≡ true → l < length L
counted-below limit L l h = omega (arith, roots_below limit l 0 L h)
