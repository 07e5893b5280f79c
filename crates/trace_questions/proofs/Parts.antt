-- A long list asked part by part. Assumes nothing.
use Rattle.std.specs.Prelude.{None, Option, Some}
use mathlib.Core.Bool.{Bool, true, false, cond}
use mathlib.Core.List.{List, [], ◌∷◌, ◌++◌}
use mathlib.Core.Path.{◌≡◌, refl, sym, ap, ◌∙◌}
use Prim.Native.Nat.{ℕ, zero, suc, ◌+◌, ◌-◌, ◌^◌, ◌<◌, ◌≤◌}
use native.Mathlib.Nat.{add-zero, zero-add, suc-add, le_of_suc-le-suc}
use native.Mathlib.Omega.{arith}
use lib.ListN.{length, take, drop, length-take, length-drop}
use lib.Seq.{get_or-take, get_or-drop, ext_get_or, take_all}
use Rattle.laws.specs.Lists.{count, table}
use Rattle.laws.proofs.Table.{length-table, get_or-table_lem}
use Rattle.laws.proofs.Counts.{count_le, count-append}
use Rattle.found.specs.First.{index, number, first_from, first}
use Rattle.found.proofs.First.{first_bound, number-count}
use Rattle.found.specs.declared.Found.{Found}
use Rattle.found.specs.First.{At}
use Rattle.trace_questions.specs.Asked.{both_found, Fits}

module _ {A : Type 0} (f g : ℕ → A) (z : A) (n m from : ℕ) (h : from < n) where
  -- the slots of a part, where g gives the creatures of the list, are the list's own
  pub part_is : ((k : ℕ) → k < n → g k ≡ f k) → take (n - from) (table m (λ (i : ℕ). g (from + i))) ≡ take m (drop from (table n f))
  part_is e =
      ext_get_or z (take (n - from) (table m (λ (i : ℕ). g (from + i)))) (take m (drop from (table n f)))
      (simp (length-take, length-drop, length-table) (omega arith))
      (λ i l.
      let a : i < n - from = omega (arith, l, length-take (n - from) (table m (λ (i : ℕ). g (from + i)))) in
      let b : i < m = omega (arith, l, length-take (n - from) (table m (λ (i : ℕ). g (from + i))), length-table m (λ (i : ℕ). g (from + i))) in
      get_or-take (n - from) (table m (λ (i : ℕ). g (from + i))) i z a
      ∙ get_or-table_lem m (λ (i : ℕ). g (from + i)) i z b
      ∙ e (from + i) (omega arith)
      ∙ sym (get_or-take m (drop from (table n f)) i z b ∙ get_or-drop from (table n f) i z ∙ get_or-table_lem n f (from + i) z (omega arith)))

-- behind somebody, the numbers add up
both-number : (i n k : ℕ) (g : Option Found) → both_found (At i n) k g ≡ At i (n + number g)
both-number i n k (Some g) = refl
both-number i n k None = rw (add-zero n)

module _ {A : Type 0} (test : A → Bool) where
  -- what is found in a list that begins at k
  shifted : (k d : ℕ) (l : List A) → first_from test (k + d) l ≡ both_found None k (first_from test d l)
  shifted k d [] = refl
  shifted k d (a ∷ l) = let p : k + d + 1 ≡ k + (d + 1) = omega arith in go (test a) (rw p (shifted k (d + 1) l))
    where
      go : (b : Bool) → first_from test (k + d + 1) l ≡ both_found None k (first_from test (d + 1) l)
          → cond b (At (k + d) (count test (a ∷ l))) (first_from test (k + d + 1) l) ≡ both_found None k (cond b (At d (count test (a ∷ l))) (first_from test (d + 1) l))
      go true e = refl
      go false e = e

  joins : (d : ℕ) (s t : List A) → first_from test d (s ++ t) ≡ both_found (first_from test d s) (d + length s) (first test t)
  joins d [] t = rw (add-zero d) (rw (add-zero d) at (shifted d 0 t))
  joins d (a ∷ s) t = let p : d + suc (length s) ≡ d + 1 + length s = omega arith in rw p (go (test a) refl (joins (d + 1) s t))
    where
      go : (b : Bool) → test a ≡ b → first_from test (d + 1) (s ++ t) ≡ both_found (first_from test (d + 1) s) (d + 1 + length s) (first test t)
          → cond b (At d (count test (a ∷ s ++ t))) (first_from test (d + 1) (s ++ t)) ≡ both_found (cond b (At d (count test (a ∷ s))) (first_from test (d + 1) s)) (d + 1 + length s)
          (first test t)
      go true q e =
          ap (At d) (count-append test (a ∷ s) t ∙ ap (λ (n : ℕ). count test (a ∷ s) + n) (sym (number-count test t)))
          ∙ sym (both-number d (count test (a ∷ s)) (d + 1 + length s) (first test t))
      go false q e = e

  index_le : (l : List A) (f : Option Found) → f ≡ first test l → index f ≤ length l
  index_le l (Some f) e = omega (arith, first_bound test f.index f.number l (sym e))
  index_le l None e = omega arith

  number_le : (l : List A) (f : Option Found) → f ≡ first test l → number f ≤ length l
  number_le l f e = omega (arith, ap number e, number-count test l, count_le test l)

take_plus : {A : Type 0} (k m : ℕ) (l : List A) → k ≤ length l → take (k + m) l ≡ take k l ++ take m (drop k l)
take_plus zero m l h = rw (zero-add m)
take_plus (suc k) m [] h = absurd (omega arith)
take_plus (suc k) m (a ∷ l) h = rw (suc-add k m, take_plus k m l (le_of_suc-le-suc h))

-- A loop over the parts of a list: f is found in those before k, g in the one from k on.
module _ {A : Type 0} (test : A → Bool) (l : List A) (m k : ℕ) (f g : Option Found) (e : f ≡ first test (take k l)) where
  pub part_fits : g ≡ first test (take m (drop k l)) → k + m < 2 ^ 64 → Fits f k g
  part_fits p h =
      let i = index_le test (take m (drop k l)) g p in
      let n = number_le test (take m (drop k l)) g p in
      let j = number_le test (take k l) f e in
      record { places = omega (arith, length-take m (drop k l)); numbers = omega (arith, length-take m (drop k l), length-take k l) }

  pub part_more : g ≡ first test (take m (drop k l)) → k ≤ length l → both_found f k g ≡ first test (take (k + m) l)
  part_more p h =
      let q : 0 + length (take k l) ≡ k = omega (arith, length-take k l) in
      rw (e, p, take_plus k m l h) (sym (rw q at (joins test 0 (take k l) (take m (drop k l)))))

pub parts_end : {A : Type 0} (test : A → Bool) (l : List A) (k : ℕ) {f : Option Found} → f ≡ first test (take k l) → length l ≤ k → f ≡ first test l
parts_end test l k e h = e ∙ ap (first test) (take_all k l h)

-- a part of a slice to its end
pub rest-is : (a : ℕ) (l : List ℕ) → take (length l - a) (drop a l) ≡ drop a l
rest-is a l = take_all (length l - a) (drop a l) (simp length-drop (omega arith))
