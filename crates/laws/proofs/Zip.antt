-- Two lists taken together, cell by cell. Assumes nothing.
use mathlib.Core.Bool.{Bool, true, false, cond}
use mathlib.Core.List.{List, [], ◌∷◌, map, zip_with}
use mathlib.Core.Path.{◌≡◌, refl, ap}
use Prim.Native.Nat.{ℕ, zero, suc, ◌+◌, ◌<◌}
use native.Mathlib.Nat.{le_of_suc-le-suc, not-suc-le-zero}
use native.Mathlib.Omega.{arith}
use lib.ListN.{length, get_or}
use Rattle.laws.specs.Lists.{all, count, bit}
use Rattle.laws.proofs.Choice.{and_both, and_left, and_right}

module _ {A B C : Type 0} (p : A → B → C) where
  pub length-zip_with_lem : (l : List A) (m : List B) → length l ≡ length m → length (zip_with p l m) ≡ length l
  unfolding zip_with
  length-zip_with_lem [] m h = refl
  length-zip_with_lem (x ∷ l) [] h = absurd (omega arith)
  length-zip_with_lem (x ∷ l) (y ∷ m) h = ap suc (length-zip_with_lem l m (omega arith))

  pub get_or-zip_with_lem : (l : List A) (m : List B) (i : ℕ) (a : A) (b : B) (c : C) → i < length l → i < length m → get_or (zip_with p l m) i c ≡ p (get_or l i a) (get_or m i b)
  unfolding zip_with
  get_or-zip_with_lem [] m i a b c h k = absurd (not-suc-le-zero h)
  get_or-zip_with_lem (x ∷ l) [] i a b c h k = absurd (not-suc-le-zero k)
  get_or-zip_with_lem (x ∷ l) (y ∷ m) zero a b c h k = refl
  get_or-zip_with_lem (x ∷ l) (y ∷ m) (suc i) a b c h k = get_or-zip_with_lem l m i a b c (le_of_suc-le-suc h) (le_of_suc-le-suc k)

pub zip_with-map_lem : {A B C D : Type 0} (p : A → C → D) (q : A → B → D) (f : B → C) → ((x : A) (y : B) → p x (f y) ≡ q x y) → (l : List A) (m : List B)
    → zip_with p l (map f m) ≡ zip_with q l m
unfolding zip_with
zip_with-map_lem p q f h [] m = refl
zip_with-map_lem p q f h (x ∷ l) [] = refl
zip_with-map_lem p q f h (x ∷ l) (y ∷ m) = rw (h x y, zip_with-map_lem p q f h l m)

-- what holds of each element made of two
pub all-zip_with_lem : {A B C : Type 0} (p : A → B → C) (f : C → Bool) (g : A → Bool) → ((x : A) (y : B) → g x ≡ true → f (p x y) ≡ true) → (l : List A) (m : List B)
    → all g l ≡ true → all f (zip_with p l m) ≡ true
unfolding zip_with
all-zip_with_lem p f g h [] m a = refl
all-zip_with_lem p f g h (x ∷ l) [] a = refl
all-zip_with_lem p f g h (x ∷ l) (y ∷ m) a = and_both (f (p x y)) (all f (zip_with p l m)) (h x y (and_left (g x) (all g l) a)) (all-zip_with_lem p f g h l m (and_right (g x) (all g l) a))

bit-cond : (b : Bool) (n : ℕ) → cond b (suc n) n ≡ bit b + n
bit-cond true n = omega arith
bit-cond false n = omega arith

-- counts of two lists add up to the count of what is made of them, or what is made loses the second's
module _ {A B C : Type 0} (p : A → B → C) (f : C → Bool) (g : A → Bool) (h : B → Bool) (a : A) (b : B) where
  pub count_zip_more : (l : List A) (m : List B) → length l ≡ length m
      → ((i : ℕ) → i < length l → bit (f (p (get_or l i a) (get_or m i b))) ≡ bit (g (get_or l i a)) + bit (h (get_or m i b))) → count f (zip_with p l m) ≡ count g l + count h m
  unfolding zip_with
  count_zip_more [] [] e s = omega arith
  count_zip_more [] (y ∷ m) e s = absurd (omega arith)
  count_zip_more (x ∷ l) [] e s = absurd (omega arith)
  count_zip_more (x ∷ l) (y ∷ m) e s =
      let i = count_zip_more l m (omega arith) (λ i k. s (suc i) (omega arith)) in
      omega (arith, s 0 (omega arith), bit-cond (f (p x y)) (count f (zip_with p l m)), bit-cond (g x) (count g l), bit-cond (h y) (count h m))

  pub count_zip_less : (l : List A) (m : List B) → length l ≡ length m
      → ((i : ℕ) → i < length l → bit (f (p (get_or l i a) (get_or m i b))) + bit (h (get_or m i b)) ≡ bit (g (get_or l i a))) → count f (zip_with p l m) + count h m ≡ count g l
  unfolding zip_with
  count_zip_less [] [] e s = omega arith
  count_zip_less [] (y ∷ m) e s = absurd (omega arith)
  count_zip_less (x ∷ l) [] e s = absurd (omega arith)
  count_zip_less (x ∷ l) (y ∷ m) e s =
      let i = count_zip_less l m (omega arith) (λ i k. s (suc i) (omega arith)) in
      omega (arith, s 0 (omega arith), bit-cond (f (p x y)) (count f (zip_with p l m)), bit-cond (g x) (count g l), bit-cond (h y) (count h m))
