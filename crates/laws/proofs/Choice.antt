-- Choice by a test, cases of an order and an equation, and what `&&` and `||` tell of their parts. Assumes nothing.
use mathlib.Core.Bool.{Bool, true, false, cond, not, ◌&&◌, ◌||◌, and-false, true≢false, false≢true}
use mathlib.Core.Logic.{◌⊎◌, inl, inr, ⊎_elim}
use mathlib.Core.Path.{◌≡◌, refl}
use Prim.Native.Nat.{ℕ, ◌≤◌, ◌<◌}
use native.Mathlib.Omega.{arith}
use lib.Dec.{ltb, leb, eqb}
use borrow.Author.Tests.{ltb-true, ltb-false, leb-true, eqb-true, eqb-false, le-leb, lt-leb}

-- what holds of both answers of a test, each under its own outcome, holds of the one that `cond` picks
pub cond_both : {A : Type 0} (P : A → Type 0) (b : Bool) (u v : A) → (b ≡ true → P u) → (b ≡ false → P v) → P (cond b u v)
cond_both P true u v f g = f refl
cond_both P false u v f g = g refl

-- a test is true or false
pub bool_cases : (b : Bool) → (b ≡ true) ⊎ (b ≡ false)
bool_cases true = inl refl
bool_cases false = inr refl

-- below or not, equal or not
pub below? : (m n : ℕ) → (m < n) ⊎ (n ≤ m)
below? m n = go (ltb m n) refl
  where
    go : (b : Bool) → ltb m n ≡ b → (m < n) ⊎ (n ≤ m)
    go true e = inl (ltb-true m n e)
    go false e = inr (ltb-false m n e)

pub same? : (m n : ℕ) → (m ≡ n) ⊎ (m ≡ n → ⊥)
same? m n = go (eqb m n) refl
  where
    go : (b : Bool) → eqb m n ≡ b → (m ≡ n) ⊎ (m ≡ n → ⊥)
    go true e = inl (eqb-true m n e)
    go false e = inr (eqb-false m n e)

pub and_both : (a b : Bool) → a ≡ true → b ≡ true → (a && b) ≡ true
and_both true b e f = f
and_both false b e f = e

pub and_left : (a b : Bool) → (a && b) ≡ true → a ≡ true
and_left true b e = refl
and_left false b e = e

pub and_right : (a b : Bool) → (a && b) ≡ true → b ≡ true
and_right true b e = e
and_right false b e = absurd (false≢true e)

-- the parts of a row of tests
pub and_three : (a b c : Bool) → (a && b && c) ≡ true → (a ≡ true) × (b ≡ true) × (c ≡ true)
and_three a b c e =
    let l = and_left (a && b) c e in
    (and_left a b l, and_right a b l, and_right (a && b) c e)

pub or_cases : (a b : Bool) → (a || b) ≡ true → (a ≡ true) ⊎ (b ≡ true)
or_cases true b e = inl refl
or_cases false b e = inr e

pub or_left : (a b : Bool) → (a || b) ≡ false → a ≡ false
or_left true b e = e
or_left false b e = refl

pub or_right : (a b : Bool) → (a || b) ≡ false → b ≡ false
or_right true b e = absurd (true≢false e)
or_right false b e = e

-- at most is not above
pub leb_not_ltb : (a b : ℕ) → leb a b ≡ not (ltb b a)
leb_not_ltb a b = go (ltb b a) refl
  where
    go : (t : Bool) → ltb b a ≡ t → leb a b ≡ not t
    go true e = lt-leb a b (ltb-true b a e)
    go false e = le-leb a b (ltb-false b a e)

-- the larger of two numbers is at most n where both are
pub larger_leb : (m k n : ℕ) → leb (cond (ltb m k) k m) n ≡ (leb m n && leb k n)
larger_leb m k n = go (ltb m k) refl
  where
    go : (b : Bool) → ltb m k ≡ b → leb (cond b k m) n ≡ (leb m n && leb k n)
    go true e =
        ⊎_elim (λ (h : leb k n ≡ true). simp (h, le-leb m n (omega (arith, ltb-true m k e, leb-true k n h))))
        (λ (h : leb k n ≡ false). simp (h, and-false)) (bool_cases (leb k n))
    go false e =
        ⊎_elim (λ (h : leb m n ≡ true). simp (h, le-leb k n (omega (arith, ltb-false m k e, leb-true m n h))))
        (λ (h : leb m n ≡ false). simp h) (bool_cases (leb m n))
