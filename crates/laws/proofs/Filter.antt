-- The elements that pass a test: a turn of a loop that keeps them, and their number. Assumes nothing.
use mathlib.Core.Bool.{Bool, true, false, cond, not}
use mathlib.Core.List.{List, [], ◌∷◌, ◌++◌, map, append-nil}
use mathlib.Core.Path.{◌≡◌, refl, ap, ◌∙◌}
use Prim.Native.Nat.{ℕ, suc, ◌+◌, ◌<◌}
use native.Mathlib.Numerals.{add-one}
use native.Mathlib.Omega.{arith}
use borrow.Author.Tests.{not-true}
use lib.ListN.{length, get_or, take}
use lib.Seq.{take-suc}
use Rattle.laws.specs.Lists.{all, any, count, filter}
use Rattle.laws.proofs.Choice.{cond_both, and_both, and_left, and_right}

module _ {A : Type 0} (f : A → Bool) where
  append-cond : (b : Bool) (x : A) (l m : List A) → cond b (x ∷ l) l ++ m ≡ cond b (x ∷ (l ++ m)) (l ++ m)
  append-cond true x l m = refl
  append-cond false x l m = refl

  pub filter-append : (l m : List A) → filter f (l ++ m) ≡ filter f l ++ filter f m
  filter-append [] m = refl
  filter-append (x ∷ l) m = ap (λ (r : List A). cond (f x) (x ∷ r) r) (filter-append l m) ∙ rw (append-cond (f x) x (filter f l) (filter f m))

  length-cond : (b : Bool) (x : A) (l : List A) → length (cond b (x ∷ l) l) ≡ cond b (suc (length l)) (length l)
  length-cond true x l = refl
  length-cond false x l = refl

  pub length-filter : (l : List A) → length (filter f l) ≡ count f l
  length-filter [] = refl
  length-filter (x ∷ l) = length-cond (f x) x (filter f l) ∙ ap (λ (n : ℕ). cond (f x) (suc n) n) (length-filter l)

  -- one more element of a list: it passes, or not
  pub filter-hit : (l : List A) (i : ℕ) (d : A) → i < length l → f (get_or l i d) ≡ true → filter f (take (i + 1) l) ≡ filter f (take i l) ++ (get_or l i d ∷ [])
  filter-hit l i d h t = rw (add-one i, take-suc l i d h, filter-append (take i l) (get_or l i d ∷ []), t)

  pub filter-miss : (l : List A) (i : ℕ) (d : A) → i < length l → f (get_or l i d) ≡ false → filter f (take (i + 1) l) ≡ filter f (take i l)
  filter-miss l i d h t = rw (add-one i, take-suc l i d h, filter-append (take i l) (get_or l i d ∷ []), t) (append-nil (filter f (take i l)))

  -- the elements that pass, and those that do not
  pub count-not : (l : List A) → length l ≡ count f l + count (λ x. not (f x)) l
  count-not [] = omega arith
  count-not (x ∷ l) = split (f x) (length l) (count f l) (count (λ x. not (f x)) l) (count-not l)
    where
      split : (b : Bool) (n a c : ℕ) → n ≡ a + c → suc n ≡ cond b (suc a) a + cond (not b) (suc c) c
      split true n a c e = omega arith
      split false n a c e = omega arith

-- what holds of each element holds of each that passes
pub all_filter : {A : Type 0} (f g : A → Bool) (l : List A) → all g l ≡ true → all g (filter f l) ≡ true
all_filter f g [] a = a
all_filter f g (x ∷ l) a =
    cond_both (λ m. all g m ≡ true) (f x) (x ∷ filter f l) (filter f l)
    (λ _. and_both (g x) (all g (filter f l)) (and_left (g x) (all g l) a) (all_filter f g l (and_right (g x) (all g l) a)))
    (λ _. all_filter f g l (and_right (g x) (all g l) a))

-- and so does what follows from it and from passing
pub all_passed : {A : Type 0} (f g h : A → Bool) → ((x : A) → f x ≡ true → g x ≡ true → h x ≡ true) → (l : List A) → all g l ≡ true → all h (filter f l) ≡ true
all_passed f g h s [] a = a
all_passed f g h s (x ∷ l) a =
    cond_both (λ m. all h m ≡ true) (f x) (x ∷ filter f l) (filter f l)
    (λ t. and_both (h x) (all h (filter f l)) (s x t (and_left (g x) (all g l) a)) (all_passed f g h s l (and_right (g x) (all g l) a)))
    (λ _. all_passed f g h s l (and_right (g x) (all g l) a))

pub all_map : {A B : Type 0} (f : B → Bool) (g : A → Bool) (p : A → B) → ((x : A) → g x ≡ true → f (p x) ≡ true) → (l : List A) → all g l ≡ true → all f (map p l) ≡ true
all_map f g p s [] a = a
all_map f g p s (x ∷ l) a = and_both (f (p x)) (all f (map p l)) (s x (and_left (g x) (all g l) a)) (all_map f g p s l (and_right (g x) (all g l) a))

pub all_true : {A : Type 0} (l : List A) → all (λ (_ : A). true) l ≡ true
all_true [] = refl
all_true (x ∷ l) = all_true l

-- where no element passes
module _ {A : Type 0} (f : A → Bool) where
  pub count_zero : (l : List A) → all (λ x. not (f x)) l ≡ true → count f l ≡ 0
  count_zero [] a = refl
  count_zero (x ∷ l) a = rw (not-true (f x) (and_left (not (f x)) (all (λ x. not (f x)) l) a)) (count_zero l (and_right (not (f x)) (all (λ x. not (f x)) l) a))

  pub any_zero : (l : List A) → all (λ x. not (f x)) l ≡ true → any f l ≡ false
  any_zero [] a = refl
  any_zero (x ∷ l) a = rw (not-true (f x) (and_left (not (f x)) (all (λ x. not (f x)) l) a)) (any_zero l (and_right (not (f x)) (all (λ x. not (f x)) l) a))

-- two tests that agree on each element of a list
module _ {A : Type 0} (f g p : A → Bool) (h : (x : A) → p x ≡ true → f x ≡ g x) where
  pub filter_ext : (l : List A) → all p l ≡ true → filter f l ≡ filter g l
  filter_ext [] a = refl
  filter_ext (x ∷ l) a = rw (h x (and_left (p x) (all p l) a), filter_ext l (and_right (p x) (all p l) a))

  pub count_ext : (l : List A) → all p l ≡ true → count f l ≡ count g l
  count_ext [] a = refl
  count_ext (x ∷ l) a = rw (h x (and_left (p x) (all p l) a), count_ext l (and_right (p x) (all p l) a))
