-- Laws of the search for the first: a turn of a loop over a list, its end, and what is found. Assumes nothing.
use Rattle.std.specs.Prelude.{Option, None, Some, position}
use Rattle.std.specs.List.{position_from}
use Rattle.std.proofs.lemmas.Iterator.Adapters.{position_from-zero}
use mathlib.Core.Bool.{Bool, true, false, cond, not, ◌||◌}
use mathlib.Core.List.{List, [], ◌∷◌}
use mathlib.Core.Path.{◌≡◌, refl, sym, ap, ◌∙◌}
use Prim.Native.Nat.{ℕ, zero, suc, ◌+◌, ◌<◌, ◌≤◌}
use native.Mathlib.Omega.{arith}
use lib.Dec.{eqb}
use lib.ListN.{length, drop}
use borrow.Author.Tests.{ne_eqb}
use Rattle.laws.specs.Lists.{any, count}
use Rattle.found.specs.First.{At, first_from, first, nobody, index, number}
use Rattle.found.specs.declared.Found.{Found}

-- A loop over a list: the first of what is left is R, the answer that is wanted.
module _ {A : Type 0} (test : A → Bool) (l : List A) (i : ℕ) {R : Option Found} where
  pub first-here : {x : A} → drop i l ≡ x ∷ drop (i + 1) l → first_from test i (drop i l) ≡ R → test x ≡ true → At i (count test (drop i l)) ≡ R
  first-here h e t = rw (h, t) (rw (h, t) at e)

  pub first_more : {x : A} → drop i l ≡ x ∷ drop (i + 1) l → first_from test i (drop i l) ≡ R → test x ≡ false → first_from test (i + 1) (drop (i + 1) l) ≡ R
  first_more h e t = rw (h, t) at e

  pub first-none : drop i l ≡ [] → first_from test i (drop i l) ≡ R → None ≡ R
  first-none h e = rw h at e

pick_bound : (b : Bool) (k i c m n : ℕ) (r : Option Found) → (r ≡ At i m → i < k + 1 + n) → cond b (At k c) r ≡ At i m → i < k + suc n
pick_bound true k i c m n r f e = let q : k ≡ i = ap index e in omega arith
pick_bound false k i c m n r f e = omega (arith, f e)

from_bound : {A : Type 0} (test : A → Bool) (k i m : ℕ) (l : List A) → first_from test k l ≡ At i m → i < k + length l
from_bound test k i m [] e = let z : ◌≡◌ {A = ℕ} 0 1 = cc in omega arith
from_bound test k i m (a ∷ l) e = pick_bound (test a) k i (count test (a ∷ l)) m (length l) (first_from test (k + 1) l) (from_bound test (k + 1) i m l) e

-- who is found is one of the list
pub first_bound : {A : Type 0} (test : A → Bool) (i m : ℕ) (l : List A) → first test l ≡ At i m → i < length l
first_bound test i m l e = omega (arith, from_bound test 0 i m l e)

-- and has no index below the one that the search began with
pub from_least : {A : Type 0} (test : A → Bool) (k i m : ℕ) (l : List A) → first_from test k l ≡ At i m → k ≤ i
from_least test k i m [] e = let z : ◌≡◌ {A = ℕ} 0 1 = cc in omega arith
from_least test k i m (a ∷ l) e = go (test a) (from_least test (k + 1) i m l) e
  where
    go : (b : Bool) → (first_from test (k + 1) l ≡ At i m → k + 1 ≤ i) → cond b (At k (count test (a ∷ l))) (first_from test (k + 1) l) ≡ At i m → k ≤ i
    go true f q = let z : k ≡ i = ap index q in omega arith
    go false f q = omega (arith, f q)

-- nobody is found where none passes, and only there
from_nobody : {A : Type 0} (test : A → Bool) (k : ℕ) (l : List A) → nobody (first_from test k l) ≡ not (any test l)
from_nobody test k [] = refl
from_nobody test k (a ∷ l) = go (test a) (from_nobody test (k + 1) l)
  where
    go : (b : Bool) → nobody (first_from test (k + 1) l) ≡ not (any test l) → nobody (cond b (At k (count test (a ∷ l))) (first_from test (k + 1) l)) ≡ not (b || any test l)
    go true e = refl
    go false e = e

pub nobody-any : {A : Type 0} (test : A → Bool) (l : List A) → nobody (first test l) ≡ not (any test l)
nobody-any test l = from_nobody test 0 l

-- the answer of an index and a number
abbrev numbered : ℕ → ℕ → Option Found
numbered i zero = None
numbered i (suc n) = At i (suc n)

numbered-number : (i n : ℕ) → number (numbered i n) ≡ n
numbered-number i zero = refl
numbered-number i (suc n) = refl

numbered-nobody : (i n : ℕ) → nobody (numbered i n) ≡ eqb n 0
numbered-nobody i zero = refl
numbered-nobody i (suc n) = sym (ne_eqb (suc n) 0 (λ q. omega arith))

-- what is told is the index of the first and how many pass
from_numbered : {A : Type 0} (test : A → Bool) (k : ℕ) (l : List A) → first_from test k l ≡ numbered (index (first_from test k l)) (count test l)
from_numbered test k [] = refl
from_numbered test k (a ∷ l) = go (test a) (from_numbered test (k + 1) l)
  where
    go : (b : Bool) → first_from test (k + 1) l ≡ numbered (index (first_from test (k + 1) l)) (count test l)
        → let n = cond b (suc (count test l)) (count test l) in
        cond b (At k n) (first_from test (k + 1) l) ≡ numbered (index (cond b (At k n) (first_from test (k + 1) l))) n
    go true e = refl
    go false e = e

-- so the number is how many pass
pub from_number : {A : Type 0} (test : A → Bool) (k : ℕ) (l : List A) → number (first_from test k l) ≡ count test l
from_number test k l = ap number (from_numbered test k l) ∙ numbered-number (index (first_from test k l)) (count test l)

pub number-count : {A : Type 0} (test : A → Bool) (l : List A) → number (first test l) ≡ count test l
number-count test l = from_number test 0 l

-- and nobody is told where that is zero, and only there
pub nobody_zero : {A : Type 0} (test : A → Bool) (l : List A) → nobody (first test l) ≡ eqb (count test l) 0
nobody_zero test l = ap nobody (from_numbered test 0 l) ∙ numbered-nobody (index (first test l)) (count test l)

-- who is found where a search tells the index, and another how many pass
abbrev pub told_at : Option ℕ → ℕ → Option Found
told_at (Some i) n = At i n
told_at None n = None

from_position : {A : Type 0} (test : A → Bool) (k : ℕ) (l : List A) → told_at (position_from test k l) (count test l) ≡ first_from test k l
from_position test k [] = refl
from_position test k (a ∷ l) = go (test a) (from_position test (k + 1) l)
  where
    go : (b : Bool) → told_at (position_from test (k + 1) l) (count test l) ≡ first_from test (k + 1) l
        → let n = cond b (suc (count test l)) (count test l) in told_at (cond b (Some k) (position_from test (k + 1) l)) n ≡ cond b (At k n) (first_from test (k + 1) l)
    go true e = refl
    go false e = e

pub first_position : {A : Type 0} (test : A → Bool) (l : List A) → told_at (position test l) (count test l) ≡ first test l
first_position test l = ap (λ (r : Option ℕ). told_at r (count test l)) (position_from-zero test l) ∙ from_position test 0 l
