-- Runs of elements as bytes, one element more at a time. Assumes nothing.
use mathlib.Core.List.{List, [], ◌∷◌, ◌++◌, append_assoc, append-nil}
use mathlib.Core.Path.{◌≡◌, refl, sym, ap, ◌∙◌, subst}
use Prim.Native.Nat.{ℕ, zero, suc, ◌+◌, ◌*◌, ◌<◌, ◌≤◌}
use native.Mathlib.Numerals.{add-one}
use native.Mathlib.Omega.{arith}
use borrow.Author.Rules.{rules}
use lib.ListN.{length, take, get_or, set}
use lib.Seq.{take-suc, take-suc-set, take_all}
use native.Mathlib.Decide.{dec_lt}
use denote.Param.Members.{Mut, Called}
use Rattle.std.specs.Array.{IsFromFnResult, IsFromFnResultFrom}
use Rattle.std.proofs.lemmas.List.{same_lists}
use Rattle.std.specs.List.{between}
use Rattle.std.proofs.lemmas.Grind.{same_number_lists}
use Rattle.std.proofs.lemmas.List.Edits.{length-between, get_or-between}
use Rattle.laws.specs.Lists.{table}
use Rattle.laws.proofs.Table.{length-table, get_or-table_lem}
use Rattle.trace_words.specs.Numbers.{byte_at, cells_at, flat}
use Rattle.trace_words.specs.CodeLays.{Lays}
use Rattle.trace_words.proofs.Lays.{lays-both, lays_as}

take_more : {A : Type 0} (l : List A) (i : ℕ) (d : A) → i < length l → take i l ++ (get_or l i d ∷ []) ≡ take (i + 1) l
take_more l i d h = rw (add-one i) (sym (take-suc l i d h))

module _ {A : Type 0} (f : A → List ℕ) where
  flat_append : (s t : List A) → flat f (s ++ t) ≡ flat f s ++ flat f t
  unfolding flat
  flat_append [] t = refl
  flat_append (x ∷ s) t = ap (λ (l : List ℕ). f x ++ l) (flat_append s t) ∙ sym (append_assoc (f x) (flat f s) (flat f t))

  flat-one : (x : A) → flat f (x ∷ []) ≡ f x
  unfolding flat
  flat-one x = append-nil (f x)

  flat-more : (l : List A) (i : ℕ) (d : A) → i < length l → flat f (take i l) ++ f (get_or l i d) ≡ flat f (take (i + 1) l)
  flat-more l i d h = ap (λ (x : List ℕ). flat f (take i l) ++ x) (sym (flat-one (get_or l i d))) ∙ sym (flat_append (take i l) (get_or l i d ∷ [])) ∙ ap (flat f) (take_more l i d h)

  -- one element of k bytes more
  pub slots-more : (l : List A) (i k : ℕ) (d : A) {at : ℕ} {b m n : List ℕ} → i < length l → Lays (flat f (take i l)) (i * k) at b m
      → Lays (f (get_or l i d)) k (at + i * k) m n → Lays (flat f (take (i + 1) l)) ((i + 1) * k) at b n
  slots-more l i k d h p q = lays_as (flat-more l i d h) (omega arith) (lays-both p q)

table-one : {A : Type 0} (f : ℕ → A) (i : ℕ) → table i f ++ (f i ∷ []) ≡ table (i + 1) f
unfolding table
table-one f i = rw (add-one i)

-- A loop that fills a list from the front with the values of f: at its start, a turn, and its end.
module _ {A : Type 0} (f : ℕ → A) (l : List A) where
  pub filled_none : take 0 l ≡ table 0 f
  unfolding table
  filled_none = refl

  pub filled_more : (i : ℕ) (v : A) → i < length l → v ≡ f i → take i l ≡ table i f → take (i + 1) (set l i v) ≡ table (i + 1) f
  filled_more i v h q e = rw (add-one i, take-suc-set l i v h, ← add-one i, e, q) (table-one f i)

  pub filled_whole : (n i : ℕ) → length l ≡ n → i ≡ n → take i l ≡ table i f → l ≡ table n f
  filled_whole n i h q e = sym (take_all i l (omega arith)) ∙ e ∙ ap (λ (k : ℕ). table k f) q

-- the cells from a place on are a part of the bytes
pub cells_range : (n at : ℕ) (l : List ℕ) → at + n ≤ length l → between at (at + n) l ≡ cells_at n at l
unfolding cells_at
cells_range n at l h =
    let f : ℕ → ℕ = λ i. byte_at (at + i) l in
    let e : length (between at (at + n) l) ≡ n = search (rules, length-between) in
    same_number_lists _ _ (e ∙ sym (length-table n f)) (λ k g. get_or-between l at (at + n) k 0 (omega (arith, e, g)) ∙ sym (get_or-table_lem n f k 0 (omega (arith, e, g))))

-- an array that a closure gives by its index, where a call changes nothing
module _ {F A : Type 0} (g : Mut F (ℕ × Unit {0}) A) (f : F) (h : ℕ → A) (step : (i : ℕ) (y : A) (q : F) → Called g f (i, tt) y q → (q ≡ f) × (y ≡ h i)) where
  made_at : (ys : List A) (i n : ℕ) → IsFromFnResultFrom g f ys i n → (k : ℕ) (d : A) → i ≤ k → k < i + n → get_or ys k d ≡ h k
  made_at ys i zero m k d a b = absurd (omega arith)
  made_at ys i (suc n) m k d a b =
      let t = step i m.1 m.0 m.3 in
      elim (dec_lt i k) [
        | yes l ↦ made_at ys (i + 1) n (subst (λ p. IsFromFnResultFrom g p ys (i + 1) n) t.0 m.4) k d (omega arith) (omega arith)
        | no l ↦ let e : k ≡ i = omega arith in rw e (m.2.1 d ∙ t.1)
      ]

  pub made_table : (ys : List A) (n : ℕ) → IsFromFnResult g f ys n → ys ≡ table n h
  made_table ys n m =
      same_lists ys (table n h) (m.long ∙ sym (length-table n h)) (λ k d l. made_at ys 0 n m.each k d (omega arith) (omega (arith, m.long)) ∙ sym (get_or-table_lem n h k d (omega (arith, m.long))))
