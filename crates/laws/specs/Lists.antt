-- Plain functions on lists, over any element type, and loops in a stated order.
-- the test holds at every element, at some; the elements that pass it, in order
pub use Rattle.std.specs.List.{list_all as all, list_any as any, filter}
use Rattle.std.specs.Prelude.{Bool, true, false, cond, ◌&&◌, List, [], ◌∷◌, ◌++◌, ℕ, zero, suc, ◌+◌, eqb}

-- 1 for true, 0 for false
abbrev pub bit : Bool → ℕ
bit true = 1
bit false = 0

-- the test holds of every number below n
abbrev pub all_below : ℕ → (ℕ → Bool) → Bool
all_below zero p = true
all_below (suc n) p = p n && all_below n p

module _ {A : Type 0} where
  -- how many elements pass the test
  abbrev pub count : (A → Bool) → List A → ℕ
  count f [] = zero
  count f (x ∷ xs) = cond (f x) (suc (count f xs)) (count f xs)

  -- the first n values of f
  unfoldable pub table : ℕ → (ℕ → A) → List A
  table zero f = []
  table (suc n) f = table n f ++ (f n ∷ [])

-- how many entries are v
unfoldable pub tally : ℕ → List ℕ → ℕ
tally v l = count (λ x. eqb x v) l

module _ {S : Type 0} where
  -- the step at i, then at i + 1, and so on: k steps
  abbrev pub across : (S → ℕ → S) → ℕ → ℕ → S → S
  across step zero i s = s
  across step (suc k) i s = across step k (i + 1) (step s i)

  -- the step at k - 1, then at k - 2, and so on down to 0
  abbrev pub down_to : (S → ℕ → S) → ℕ → S → S
  down_to step zero s = s
  down_to step (suc k) s = down_to step k (step s k)
