-- The laws of `table`: a list that is filled from the front, one store a turn, and read by its index. Assumes nothing.
use mathlib.Core.Bool.{Bool, true, ◌&&◌}
use mathlib.Core.Path.{◌≡◌, refl, sym, ap₂, ◌∙◌}
use mathlib.Core.List.{List, [], ◌∷◌, ◌++◌, append_assoc, append-nil}
use Prim.Native.Nat.{ℕ, zero, suc, ◌+◌, ◌<◌}
use native.Mathlib.Decide.{dec_lt}
use native.Mathlib.Numerals.{add-one}
use native.Mathlib.Omega.{arith}
use lib.ListN.{length, get_or, set, drop, length-append, drop_of_length-le, get_or-append}
use lib.Seq.{drop-cons, set_at, get_or_at}
use Rattle.laws.specs.Lists.{all, table}
use Rattle.laws.proofs.Choice.{and_both}
use Rattle.laws.proofs.Lists.{all_append}

module _ {A : Type 0} where
  pub length-table : (n : ℕ) (f : ℕ → A) → length (table n f) ≡ n
  unfolding table
  length-table zero f = refl
  length-table (suc n) f = length-append (table n f) (f n ∷ []) ∙ omega (arith, length-table n f)

  pub get_or-table_lem : (n : ℕ) (f : ℕ → A) (k : ℕ) (d : A) → k < n → get_or (table n f) k d ≡ f k
  unfolding table
  get_or-table_lem zero f k d h = absurd (omega arith)
  get_or-table_lem (suc n) f k d h =
      elim (dec_lt k n) [
        | yes l ↦ get_or-append (table n f) (f n ∷ []) d k (omega (arith, length-table n f)) ∙ get_or-table_lem n f k d l
        | no l ↦ let e : k ≡ n = omega arith in rw e (get_or_at (table n f) (f n) [] d n (length-table n f))
      ]

  -- only the values below n count
  pub table_ext : (n : ℕ) (f g : ℕ → A) → ((k : ℕ) → k < n → f k ≡ g k) → table n f ≡ table n g
  unfolding table
  table_ext zero f g h = refl
  table_ext (suc n) f g h = ap₂ (λ (l : List A) (x : A). l ++ (x ∷ [])) (table_ext n f g (λ k l. h k (omega arith))) (h n (omega arith))

  -- A loop that fills a list: the first n entries are done. At its start, a turn, and its end.
  pub table_none : (f : ℕ → A) (d : List A) → d ≡ table 0 f ++ drop 0 d
  unfolding table
  table_none f d = refl

  pub table_more : (n : ℕ) (f : ℕ → A) (d : List A) (z : A) → n < length d → set (table n f ++ drop n d) n (f n) ≡ table (n + 1) f ++ drop (n + 1) d
  unfolding table
  table_more n f d z h =
      rw (add-one, drop-cons d n z h, set_at (table n f) (get_or d n z) (drop (suc n) d) (f n) n (length-table n f))
      (sym (append_assoc (table n f) (f n ∷ []) (drop (suc n) d)))

  pub table-whole : (n : ℕ) (f : ℕ → A) (d : List A) → length d ≡ n → table n f ++ drop n d ≡ table n f
  table-whole n f d h = rw (drop_of_length-le d {i = n} (omega arith)) (append-nil (table n f))

-- what holds of each value below n
pub all-table : {A : Type 0} (f : A → Bool) (n : ℕ) (p : ℕ → A) → ((k : ℕ) → k < n → f (p k) ≡ true) → all f (table n p) ≡ true
unfolding table
all-table f zero p h = refl
all-table f (suc n) p h = all_append f (table n p) (p n ∷ [])
    ∙ and_both (all f (table n p)) (f (p n) && true) (all-table f n p (λ k l. h k (omega arith))) (and_both (f (p n)) true (h n (omega arith)) refl)
