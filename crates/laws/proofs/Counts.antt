-- How a store changes a count. Assumes nothing.
use mathlib.Core.Bool.{Bool, true, false, cond, true≢false}
use mathlib.Core.List.{List, [], ◌∷◌, ◌++◌, map}
use mathlib.Core.Logic.{⊎_elim}
use mathlib.Core.Path.{◌≡◌, refl, sym, ◌∙◌, ap}
use Prim.Native.Nat.{ℕ, zero, suc, ◌+◌, ◌≤◌, ◌<◌}
use native.Mathlib.Nat.{le_of_suc-le-suc, not-suc-le-zero}
use native.Mathlib.Numerals.{add-one}
use native.Mathlib.Omega.{arith}
use borrow.Author.Tests.{eq-eqb, ne_eqb}
use lib.Dec.{eqb}
use lib.ListN.{length, get_or, set, take}
use lib.Seq.{take-suc}
use Rattle.laws.specs.Lists.{count, bit, tally}
use Rattle.laws.proofs.Choice.{same?}

one_less : (b : Bool) (n : ℕ) → n + bit b ≡ cond b (suc n) n
one_less true n = omega arith
one_less false n = omega arith

carry : (b : Bool) (n t k : ℕ) → n + t ≡ k → cond b (suc n) n + t ≡ cond b (suc k) k
carry true n t k e = omega arith
carry false n t k e = e

-- a store of what is not counted takes off what stood there, wherever it is (past the end nothing stands, and 0 is not counted)
pub count-clear : (f : ℕ → Bool) (v : ℕ) → f 0 ≡ false → f v ≡ false → (l : List ℕ) (i : ℕ) → count f (set l i v) + bit (f (get_or l i 0)) ≡ count f l
count-clear f v z h [] i = rw z
count-clear f v z h (x ∷ l) zero = rw h (one_less (f x) (count f l))
count-clear f v z h (x ∷ l) (suc i) = carry (f x) (count f (set l i v)) (bit (f (get_or l i 0))) (count f l) (count-clear f v z h l i)

-- a store at an index within the list: what it puts there counts, and what stood there no more
swap : (a b : Bool) (n : ℕ) → cond b (suc n) n + bit a ≡ cond a (suc n) n + bit b
swap true true n = omega arith
swap true false n = omega arith
swap false true n = omega arith
swap false false n = omega arith

carry_on : (b : Bool) (n k s t : ℕ) → n + s ≡ k + t → cond b (suc n) n + s ≡ cond b (suc k) k + t
carry_on true n k s t e = omega arith
carry_on false n k s t e = e

pub count_set : {A : Type 0} (f : A → Bool) (l : List A) (i : ℕ) (v d : A) → i < length l → count f (set l i v) + bit (f (get_or l i d)) ≡ count f l + bit (f v)
count_set f [] i v d h = absurd (not-suc-le-zero h)
count_set f (x ∷ l) zero v d h = swap (f x) (f v) (count f l)
count_set f (x ∷ l) (suc i) v d h = carry_on (f x) (count f (set l i v)) (count f l) (bit (f (get_or l i d))) (bit (f v)) (count_set f l i v d (le_of_suc-le-suc h))

-- what stands at i is there still after the same is stored anywhere
pub get_or_set_kept_lem : {A : Type 0} (l : List A) (i j : ℕ) (d v : A) → get_or l i d ≡ v → get_or (set l j v) i d ≡ v
get_or_set_kept_lem [] i j d v e = e
get_or_set_kept_lem (x ∷ l) zero zero d v e = refl
get_or_set_kept_lem (x ∷ l) zero (suc j) d v e = e
get_or_set_kept_lem (x ∷ l) (suc i) zero d v e = e
get_or_set_kept_lem (x ∷ l) (suc i) (suc j) d v e = get_or_set_kept_lem l i j d v e

-- a count is no more than the length
count-step : (b : Bool) (m n : ℕ) → m ≤ n → cond b (suc m) m ≤ suc n
count-step true m n h = omega arith
count-step false m n h = omega arith

pub count_le : {A : Type 0} (f : A → Bool) (l : List A) → count f l ≤ length l
count_le f [] = omega arith
count_le f (x ∷ l) = count-step (f x) (count f l) (length l) (count_le f l)

-- a count over one more element of a list
pub count-append : {A : Type 0} (f : A → Bool) (l m : List A) → count f (l ++ m) ≡ count f l + count f m
count-append f [] m = omega arith
count-append f (x ∷ l) m = carry_more (f x) (count f (l ++ m)) (count f l) (count f m) (count-append f l m)
  where
    carry_more : (b : Bool) (n a c : ℕ) → n ≡ a + c → cond b (suc n) n ≡ cond b (suc a) a + c
    carry_more true n a c e = omega arith
    carry_more false n a c e = e

pub count-take : {A : Type 0} (f : A → Bool) (l : List A) (i : ℕ) (d : A) → i < length l → count f (take (i + 1) l) ≡ count f (take i l) + bit (f (get_or l i d))
count-take f l i d h = rw (add-one i, take-suc l i d h, count-append f (take i l) (get_or l i d ∷ [])) (ap (λ (n : ℕ). count f (take i l) + n) (one (f (get_or l i d))))
  where
    one : (b : Bool) → cond b 1 0 ≡ bit b
    one true = refl
    one false = refl

-- a store over a takes one off a's tally, and one of b over something else adds one to b's
pub tally_le : (v : ℕ) (l : List ℕ) → tally v l ≤ length l
unfolding tally
tally_le v l = count_le (λ x. eqb x v) l

pub tally_lose : (l : List ℕ) (i a b : ℕ) → i < length l → get_or l i 0 ≡ a → (b ≡ a → ⊥) → tally a l ≡ suc (tally a (set l i b))
unfolding tally
tally_lose l i a b h e n =
    let q = rw (eq-eqb (get_or l i 0) a e, ne_eqb b a n) at (count_set (λ x. eqb x a) l i b 0 h) in
    omega arith

pub tally_gain : (l : List ℕ) (i b : ℕ) → i < length l → (get_or l i 0 ≡ b → ⊥) → tally b (set l i b) ≡ suc (tally b l)
unfolding tally
tally_gain l i b h n =
    let q = rw (ne_eqb (get_or l i 0) b n, eq-eqb b b refl) at (count_set (λ x. eqb x b) l i b 0 h) in
    omega arith

-- a number that is nowhere has no tally
pub tally-none : (v : ℕ) (l : List ℕ) → ((c : ℕ) → get_or l c 0 ≡ v → ⊥) → tally v l ≡ 0
unfolding tally
tally-none v [] n = refl
tally-none v (x ∷ l) n = rw (ne_eqb x v (n 0)) (tally-none v l (λ c e. n (suc c) e))

-- a number that is somewhere has one
pub tally-some : (v : ℕ) (l : List ℕ) (c d : ℕ) → c < length l → get_or l c d ≡ v → 0 < tally v l
unfolding tally
tally-some v [] c d h e = absurd (not-suc-le-zero h)
tally-some v (x ∷ l) zero d h e = rw (eq-eqb x v e) (omega arith)
tally-some v (x ∷ l) (suc c) d h e = up (eqb x v) (count (λ y. eqb y v) l) (tally-some v l c d (le_of_suc-le-suc h) e)
  where
    up : (b : Bool) (n : ℕ) → 0 < n → 0 < cond b (suc n) n
    up true n h = omega arith
    up false n h = h

-- two lists that pass their tests at the same places have the same count
pub count_same : {A B : Type 0} (f : A → Bool) (g : B → Bool) (l : List A) (m : List B) (d : A) (e : B) → length l ≡ length m
    → ((c : ℕ) → c < length l → f (get_or l c d) ≡ g (get_or m c e)) → count f l ≡ count g m
count_same f g [] [] d e h s = refl
count_same f g [] (y ∷ m) d e h s = absurd (omega arith)
count_same f g (x ∷ l) [] d e h s = absurd (omega arith)
count_same f g (x ∷ l) (y ∷ m) d e h s =
    let i = count_same f g l m d e (omega arith) (λ c k. s (suc c) (omega arith)) in
    rw (s 0 (omega arith), i)

-- two equations that follow from each other are one test
pub eqb_iff : (x a y b : ℕ) → (x ≡ a → y ≡ b) → (y ≡ b → x ≡ a) → eqb x a ≡ eqb y b
eqb_iff x a y b f g = ⊎_elim (λ e. eq-eqb x a e ∙ sym (eq-eqb y b (f e))) (λ n. ne_eqb x a n ∙ sym (ne_eqb y b (λ e. n (g e)))) (same? x a)

pub tally-same : (a b : ℕ) (l m : List ℕ) (d e : ℕ) → length l ≡ length m → ((c : ℕ) → (get_or l c d ≡ a → get_or m c e ≡ b) × (get_or m c e ≡ b → get_or l c d ≡ a))
    → tally a l ≡ tally b m
unfolding tally
tally-same a b l m d e h s = count_same (λ x. eqb x a) (λ x. eqb x b) l m d e h (λ c k. eqb_iff (get_or l c d) a (get_or m c e) b (s c).0 (s c).1)

pub count_map : {A B : Type 0} (f : B → Bool) (p : A → B) (l : List A) → count f (map p l) ≡ count (λ x. f (p x)) l
count_map f p [] = refl
count_map f p (x ∷ l) = rw (count_map f p l)

-- a test that passes where one of two others does, and both never do
pub count_plus : {A : Type 0} (f g h : A → Bool) → ((x : A) → bit (f x) ≡ bit (g x) + bit (h x)) → (l : List A) → count f l ≡ count g l + count h l
count_plus f g h s [] = omega arith
count_plus f g h s (x ∷ l) = omega (arith, s x, count_plus f g h s l, one_less (f x) (count f l), one_less (g x) (count g l), one_less (h x) (count h l))

-- a test that passes only where another does counts no more
pub count_mono : {A B : Type 0} (f : A → Bool) (g : B → Bool) (l : List A) (m : List B) (d : A) (e : B) → length l ≡ length m
    → ((i : ℕ) → i < length l → f (get_or l i d) ≡ true → g (get_or m i e) ≡ true) → count f l ≤ count g m
count_mono f g [] m d e h s = omega arith
count_mono f g (x ∷ l) [] d e h s = absurd (omega arith)
count_mono f g (x ∷ l) (y ∷ m) d e h s =
    more (f x) (g y) (count f l) (count g m) (s 0 (omega arith)) (count_mono f g l m d e (omega arith) (λ i k. s (suc i) (omega arith)))
  where
    more : (a b : Bool) (j k : ℕ) → (a ≡ true → b ≡ true) → j ≤ k → cond a (suc j) j ≤ cond b (suc k) k
    more true true j k e h = omega arith
    more true false j k e h = absurd (true≢false (sym (e refl)))
    more false true j k e h = omega arith
    more false false j k e h = h
