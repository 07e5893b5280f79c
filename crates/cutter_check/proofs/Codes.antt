-- The largest code tells whether all are codes, and whether one is line. Assumes nothing.
use mathlib.Core.Bool.{Bool, true, false, cond, ◌&&◌, ◌||◌, and-true, and_assoc, or-false, or_assoc}
use mathlib.Core.List.{List, [], ◌∷◌}
use mathlib.Core.Logic.{⊎_elim}
use mathlib.Core.Path.{◌≡◌, refl, sym, ◌∙◌, ap}
use Prim.Native.Nat.{ℕ, ◌+◌, ◌≤◌, max}
use native.Mathlib.Omega.{arith}
use native.Mathlib.Nat.{max-eq_left, max-eq_right}
use lib.Dec.{ltb}
use lib.ListN.{drop}
use borrow.Author.Tests.{ltb-true, ltb-false, leb-true, le-leb, eqb-false, ne_eqb}
use Rattle.laws.specs.Lists.{all, any}
use Rattle.laws.proofs.Choice.{and_left, bool_cases, larger_leb}
use Rattle.cutter_ground.specs.Cells.{CB_TRAIL}
use Rattle.cutter_state.specs.WellFormed.{is_code, is_trail}
use Rattle.cutter_check.specs.CodePasses.{largest_of}

-- A loop that goes through the codes: the largest of m and those from i on is R.
larger : (m k : ℕ) → max m k ≡ cond (ltb m k) k m
larger m k = go (ltb m k) refl
  where
    go : (b : Bool) → ltb m k ≡ b → max m k ≡ cond b k m
    go true e = max-eq_right (omega (arith, ltb-true m k e))
    go false e = max-eq_left (ltb-false m k e)

pub largest_more : (l : List ℕ) (i m : ℕ) {R k : ℕ} → drop i l ≡ k ∷ drop (i + 1) l → largest_of m (drop i l) ≡ R → largest_of (max m k) (drop (i + 1) l) ≡ R
unfolding largest_of
largest_more l i m {R} {k} h e = ap (λ n. largest_of n (drop (i + 1) l)) (larger m k) ∙ (rw h at e)

pub largest_end : (l : List ℕ) (i m : ℕ) {R : ℕ} → drop i l ≡ [] → largest_of m (drop i l) ≡ R → m ≡ R
unfolding largest_of
largest_end l i m h e = sym (ap (largest_of m) h) ∙ e

-- ---- of two codes, and of all

one_line : (b : Bool) (m k : ℕ) → ltb m k ≡ b → is_code (cond b k m) ≡ true → is_trail (cond b k m) ≡ (is_trail m || is_trail k)
one_line true m k e h = simp (ne_eqb m 2 (λ z. omega (arith, ltb-true m k e, leb-true k 2 h)))
one_line false m k e h =
    ⊎_elim (λ (z : is_trail m ≡ true). simp z)
    (λ (z : is_trail m ≡ false). simp (z, ne_eqb k 2 (λ y. eqb-false m 2 z (omega (arith, ltb-false m k e, leb-true m 2 h)))))
    (bool_cases (is_trail m))

codes_from : (m : ℕ) (g : List ℕ) → is_code (largest_of m g) ≡ (is_code m && all is_code g)
unfolding largest_of
codes_from m [] = sym (and-true (is_code m))
codes_from m (k ∷ g) =
    codes_from (cond (ltb m k) k m) g
    ∙ ap (λ (b : Bool). b && all is_code g) (larger_leb m k CB_TRAIL)
    ∙ and_assoc (is_code m) (is_code k) (all is_code g)

line_from : (m : ℕ) (g : List ℕ) → is_code (largest_of m g) ≡ true → is_trail (largest_of m g) ≡ (is_trail m || any is_trail g)
unfolding largest_of
line_from m [] h = sym (or-false (is_trail m))
line_from m (k ∷ g) h =
    let n = cond (ltb m k) k m in
    let c = and_left (is_code n) (all is_code g) (sym (codes_from n g) ∙ h) in
    line_from n g h
    ∙ ap (λ (b : Bool). b || any is_trail g) (one_line (ltb m k) m k refl c)
    ∙ or_assoc (is_trail m) (is_trail k) (any is_trail g)

module _ (g : List ℕ) where
  pub codes-largest : is_code (largest_of 0 g) ≡ all is_code g
  codes-largest = codes_from 0 g

  pub line-largest : largest_of 0 g ≤ CB_TRAIL → is_trail (largest_of 0 g) ≡ any is_trail g
  line-largest h = line_from 0 g (le-leb (largest_of 0 g) CB_TRAIL h)
