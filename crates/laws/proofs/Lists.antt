-- Lists from an index on, and the turns of a loop that tests, counts or rewrites each element. Assumes nothing.
use mathlib.Core.Bool.{Bool, cond, true, false, ◌&&◌, ◌||◌, not, and_assoc, or_assoc, or-false, or-true}
use mathlib.Core.List.{List, [], ◌∷◌, ◌++◌, map, append-nil}
use mathlib.Core.Path.{◌≡◌, refl, ap, sym, ◌∙◌}
use Prim.Native.Nat.{ℕ, zero, suc, ◌+◌, ◌-◌, ◌<◌, ◌≤◌}
use native.Mathlib.Nat.{le_of_suc-le-suc, not-suc-le-zero, sub-zero, zero-sub, suc-sub-suc}
use native.Mathlib.Numerals.{add-one}
use native.Mathlib.Omega.{arith}
use lib.ListN.{length, get_or, take, drop, set, drop_of_length-le, length-map, length-take, replicate, take-append-drop}
use lib.Seq.{drop-cons, get_or-take, take-suc, take-suc-set, drop-set-lt, append_snoc, take_all}
use Rattle.std.specs.Prelude.{fold, count_by}
use Rattle.laws.specs.Lists.{all, any, count}
use Rattle.laws.proofs.Choice.{and_left, and_right, and_both, or_left, or_right}

module _ {A : Type 0} where
  -- the elements from i on: the one at i, and those from i + 1 on
  pub drop-one : (l : List A) (i : ℕ) (d : A) → i < length l → drop i l ≡ get_or l i d ∷ drop (i + 1) l
  drop-one l i d h = rw (add-one, drop-cons l i d)

  -- the elements from the end on
  pub drop_end : (l : List A) (n : ℕ) → length l ≡ n → drop n l ≡ []
  drop_end l n e = drop_of_length-le l {i = n} (omega arith)

  -- within a list the default does not matter
  pub get_or_default : (l : List A) (i : ℕ) (d e : A) → i < length l → get_or l i d ≡ get_or l i e
  get_or_default [] i d e h = absurd (not-suc-le-zero h)
  get_or_default (x ∷ l) zero d e h = refl
  get_or_default (x ∷ l) (suc i) d e h = get_or_default l i d e (le_of_suc-le-suc h)

-- a list of one value, from an index on
pub drop-replicate : {A : Type 0} (n k : ℕ) (a : A) → drop k (replicate n a) ≡ replicate (n - k) a
drop-replicate n zero a = rw (sub-zero n)
drop-replicate zero (suc k) a = rw (zero-sub (suc k))
drop-replicate (suc n) (suc k) a = rw (suc-sub-suc n k) (drop-replicate n k a)

-- a list of one value, also past its end
pub get_or_replicate_same_lem : {A : Type 0} (n i : ℕ) (a : A) → get_or (replicate n a) i a ≡ a
get_or_replicate_same_lem zero i a = refl
get_or_replicate_same_lem (suc n) zero a = refl
get_or_replicate_same_lem (suc n) (suc i) a = get_or_replicate_same_lem n i a

-- the i-th of the first n elements
pub taken_one : {A : Type 0} (n : ℕ) (l : List A) (i : ℕ) (d : A) → i < n → i < length l → drop i (take n l) ≡ get_or l i d ∷ drop (i + 1) (take n l)
taken_one n l i d h k =
    let b : i < length (take n l) = simp length-take (omega arith) in
    rw (drop-one (take n l) i d b, get_or-take n l i d h)

-- the rest of the first n elements, and those past them
pub taken_rest : {A : Type 0} (n i : ℕ) (l : List A) → i ≤ n → drop i (take n l) ++ drop n l ≡ drop i l
taken_rest n zero l h = take-append-drop n l
taken_rest zero (suc i) l h = absurd (not-suc-le-zero h)
taken_rest (suc n) (suc i) [] h = refl
taken_rest (suc n) (suc i) (e ∷ l) h = taken_rest n i l (le_of_suc-le-suc h)

pub taken_end : {A : Type 0} (n : ℕ) (l : List A) (i : ℕ) → n ≤ i → drop i (take n l) ≡ []
taken_end n l i h = drop_of_length-le (take n l) {i = i} (simp length-take (omega arith))

raised : (b o r : Bool) {R : Bool} → (not b && (not o && r)) ≡ R → (not (b || o) && r) ≡ R
raised true o r e = e
raised false o r e = e

settled : (b : Bool) {R : Bool} → (not b && true) ≡ R → not b ≡ R
settled true e = e
settled false e = e

-- A loop over a list that tests each element. Its invariant: the test over the elements from i on is R, the answer that is wanted.
module _ {A : Type 0} (f : A → Bool) (l : List A) (i : ℕ) {R : Bool} where
  pub all_more : {x : A} → drop i l ≡ x ∷ drop (i + 1) l → all f (drop i l) ≡ R → f x ≡ true → all f (drop (i + 1) l) ≡ R
  all_more h e t = rw (h, t) at e

  pub all_fails : {x : A} → drop i l ≡ x ∷ drop (i + 1) l → all f (drop i l) ≡ R → f x ≡ false → false ≡ R
  all_fails h e t = rw (h, t) at e

  pub all_end : drop i l ≡ [] → all f (drop i l) ≡ R → true ≡ R
  all_end h e = rw h at e

  pub any-more : {x : A} → drop i l ≡ x ∷ drop (i + 1) l → any f (drop i l) ≡ R → f x ≡ false → any f (drop (i + 1) l) ≡ R
  any-more h e t = rw (h, t) at e

  pub any-holds : {x : A} → drop i l ≡ x ∷ drop (i + 1) l → any f (drop i l) ≡ R → f x ≡ true → true ≡ R
  any-holds h e t = rw (h, t) at e

  pub any_end : drop i l ≡ [] → any f (drop i l) ≡ R → false ≡ R
  any_end h e = rw h at e

-- A whole pass over a list that gathers one flag, whether some element fails the test: o is what the element at i adds to b.
module _ {A : Type 0} (f : A → Bool) (l : List A) (i : ℕ) (b : Bool) {R : Bool} where
  pub flag_more : {x : A} (o : Bool) → drop i l ≡ x ∷ drop (i + 1) l → (not b && all f (drop i l)) ≡ R → f x ≡ not o → (not (b || o) && all f (drop (i + 1) l)) ≡ R
  flag_more o h e t = raised b o (all f (drop (i + 1) l)) (rw (h, t) at e)

  pub flag_end : drop i l ≡ [] → (not b && all f (drop i l)) ≡ R → not b ≡ R
  flag_end h e = settled b (rw h at e)

-- what owning an array of structs tells of its length: `search (needs, mapped)`
pub mapped : {A B : Type 0} (f : A → B) (l : List A) (n : ℕ) → length (map f l) ≡ n → length l ≡ n
mapped f l n e = sym (length-map l f) ∙ e

pub mapped_below : {A B : Type 0} (f : A → B) (l : List A) (i n : ℕ) → length (map f l) ≡ n → i < n → i < length l
mapped_below f l i n e h = rw (mapped f l n e) h

-- A loop that counts: n so far, and the rest to come.
module _ {A : Type 0} (f : A → Bool) (l : List A) (i n : ℕ) {R : ℕ} where
  pub count-hit : {x : A} → drop i l ≡ x ∷ drop (i + 1) l → n + count f (drop i l) ≡ R → f x ≡ true → n + 1 + count f (drop (i + 1) l) ≡ R
  count-hit h e t = let q : n + suc (count f (drop (i + 1) l)) ≡ R = rw (h, t) at e in omega arith

  pub count-miss : {x : A} → drop i l ≡ x ∷ drop (i + 1) l → n + count f (drop i l) ≡ R → f x ≡ false → n + count f (drop (i + 1) l) ≡ R
  count-miss h e t = rw (h, t) at e

  pub count_end : drop i l ≡ [] → n + count f (drop i l) ≡ R → n ≡ R
  count_end h e = let q : n + 0 ≡ R = rw h at e in omega arith

-- A loop that rewrites each element in place: those before i are done.
module _ {A : Type 0} (f : A → A) where
  pub map_more : (l : List A) (i : ℕ) (d : A) {R : List A} → i < length l → take i l ++ map f (drop i l) ≡ R
      → take (i + 1) (set l i (f (get_or l i d))) ++ map f (drop (i + 1) (set l i (f (get_or l i d)))) ≡ R
  map_more l i d h e =
      simp (add-one, take-suc-set l i (f (get_or l i d)) h, drop-set-lt (suc i) l i (f (get_or l i d)) (omega arith), append_snoc)
      (rw (drop-cons l i d h) at e)

  pub map_end : (l : List A) (n : ℕ) {R : List A} → length l ≡ n → take n l ++ map f (drop n l) ≡ R → l ≡ R
  map_end l n h e = sym (append-nil l) ∙ (rw (drop_end l n h, take_all n l (omega arith)) at e)

-- A loop that fills a list from the front with what stands in r.
module _ {A : Type 0} (l r : List A) where
  pub fill_more : (i : ℕ) (v d : A) → i < length l → i < length r → take i l ≡ take i r → v ≡ get_or r i d → take (i + 1) (set l i v) ≡ take (i + 1) r
  fill_more i v d h k e q = rw (add-one i, take-suc-set l i v h, take-suc r i d k, e, q)

  pub fill_end : (n : ℕ) → length l ≡ n → length r ≡ n → take n l ≡ take n r → l ≡ r
  fill_end n a b e = sym (take_all n l (omega arith)) ∙ e ∙ take_all n r (omega arith)

-- what holds of each element holds of the one at i, and still holds of each where another is stored for which it holds
module _ {A : Type 0} (f : A → Bool) where
  pub all_at : (l : List A) (i : ℕ) (d : A) → all f l ≡ true → f d ≡ true → f (get_or l i d) ≡ true
  all_at [] i d a e = e
  all_at (x ∷ l) zero d a e = and_left (f x) (all f l) a
  all_at (x ∷ l) (suc i) d a e = all_at l i d (and_right (f x) (all f l) a) e

  pub all_set : (l : List A) (i : ℕ) (v : A) → all f l ≡ true → f v ≡ true → all f (set l i v) ≡ true
  all_set [] i v a e = a
  all_set (x ∷ l) zero v a e = and_both (f v) (all f l) e (and_right (f x) (all f l) a)
  all_set (x ∷ l) (suc i) v a e = and_both (f x) (all f (set l i v)) (and_left (f x) (all f l) a) (all_set l i v (and_right (f x) (all f l) a) e)

  -- what holds of one element
  pub any_at : (l : List A) (i : ℕ) (d : A) → i < length l → f (get_or l i d) ≡ true → any f l ≡ true
  any_at [] i d h e = absurd (not-suc-le-zero h)
  any_at (x ∷ l) zero d h e = rw e
  any_at (x ∷ l) (suc i) d h e = rw (any_at l i d (le_of_suc-le-suc h) e) (or-true (f x))

  -- what holds of no element
  pub any-set : (l : List A) (i : ℕ) (v : A) → any f l ≡ false → f v ≡ false → any f (set l i v) ≡ false
  any-set [] i v a e = a
  any-set (x ∷ l) zero v a e = rw e (or_right (f x) (any f l) a)
  any-set (x ∷ l) (suc i) v a e = rw (or_left (f x) (any f l) a) (any-set l i v (or_right (f x) (any f l) a) e)

  -- all and any of two lists, one after the other
  pub all_append : (s t : List A) → all f (s ++ t) ≡ (all f s && all f t)
  all_append [] t = refl
  all_append (x ∷ s) t = rw (all_append s t) (sym (and_assoc (f x) (all f s) (all f t)))

  pub any_append : (s t : List A) → any f (s ++ t) ≡ (any f s || any f t)
  any_append [] t = refl
  any_append (x ∷ s) t = rw (any_append s t) (sym (or_assoc (f x) (any f s) (any f t)))

  -- one element more among the first i
  pub any-take : (l : List A) (i : ℕ) (d : A) → i < length l → any f (take (i + 1) l) ≡ (any f (take i l) || f (get_or l i d))
  any-take l i d h =
      rw (add-one, take-suc l i d h, any_append (take i l) (get_or l i d ∷ []))
      (ap (λ (b : Bool). any f (take i l) || b) (or-false (f (get_or l i d))))

-- what holds of each element, where a weaker test is asked
pub all_weaken : {A : Type 0} (f g : A → Bool) → ((x : A) → f x ≡ true → g x ≡ true) → (l : List A) → all f l ≡ true → all g l ≡ true
all_weaken f g h [] a = refl
all_weaken f g h (x ∷ l) a = and_both (g x) (all g l) (h x (and_left (f x) (all f l) a)) (all_weaken f g h l (and_right (f x) (all f l) a))

-- each element of a list of one value
pub all_replicate : {A : Type 0} (f : A → Bool) (n : ℕ) (a : A) → f a ≡ true → all f (replicate n a) ≡ true
all_replicate f zero a e = refl
all_replicate f (suc n) a e = and_both (f a) (all f (replicate n a)) e (all_replicate f n a e)

-- the count of this library is the kit's
pub fold-count : {A : Type 0} (f : A → Bool) (l : List A) (n : ℕ) → fold (λ a x. a + cond (f x) 1 0) n l ≡ n + count f l
fold-count f [] n = omega arith
fold-count f (x ∷ l) n = fold-count f l (n + cond (f x) 1 0) ∙ lem (f x)
  where
    lem : (b : Bool) → n + cond b 1 0 + count f l ≡ n + cond b (suc (count f l)) (count f l)
    lem true = omega arith
    lem false = omega arith

pub count-is : {A : Type 0} (f : A → Bool) (l : List A) → count_by f l ≡ count f l
count-is f l = omega (arith, fold-count f l 0)
