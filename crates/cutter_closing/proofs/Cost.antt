-- The cells that a closing's search takes, added up. Assumes nothing.
use mathlib.Core.Bool.{true, false, ◌||◌}
use mathlib.Core.List.{List, [], ◌∷◌}
use mathlib.Core.Logic.{⊎_elim}
use mathlib.Core.Path.{◌≡◌, refl, sym, ap, subst, ◌∙◌}
use Prim.Native.Nat.{ℕ, suc, ◌+◌, ◌≤◌, ◌<◌}
use native.Mathlib.Omega.{arith}
use borrow.Author.Tests.{eq-eqb, ne_eqb}
use lib.Dec.{eqb}
use lib.ListN.{length, get_or}
use Rattle.laws.specs.Lists.{any, bit, count, tally}
use Rattle.laws.proofs.Choice.{same?}
use Rattle.laws.proofs.Counts.{count_mono, count_plus}
use Rattle.cutter_ground.specs.Cells.{CN, CB_BLACK, CB_FILLED}
use Rattle.cutter_joined.specs.Joined.{Right}
use Rattle.cutter_joined.proofs.Joined.{right-black}
use Rattle.cutter_closing.specs.Counted.{counted, cells_in}
use Rattle.cutter_closing.specs.Cost.{searched_in, searched_of, cells_of, SearchCost}
use Rattle.cutter_closing.proofs.Kept.{Rising, roots_rising}
use Rattle.cutter_closing.proofs.Roots.{counted-below}
use Rattle.cutter_closing.proofs.Sums.{black-line, line-length, right}

-- ---- the sum

before-none : (r c : ℕ) (rs : List ℕ) → r < c → Rising c rs → any (eqb r) rs ≡ false
before-none r c [] h a = refl
before-none r c (x ∷ rs) h a = rw (ne_eqb r x (λ e. omega (arith, a.0))) (before-none r (suc x) rs (omega (arith, a.0)) a.1)

one-region : (l r : ℕ) (rs : List ℕ) → any (eqb r) rs ≡ false → bit (eqb l r || any (eqb l) rs) ≡ bit (eqb l r) + bit (any (eqb l) rs)
one-region l r rs f =
    ⊎_elim (λ e. rw (eq-eqb l r e, subst (λ (x : ℕ). any (eqb x) rs ≡ false) (sym e) f)) (λ n. rw (ne_eqb l r n) (omega arith)) (same? l r)

regions_sum : (L : List ℕ) (c : ℕ) (rs : List ℕ) → Rising c rs → count (λ l. any (eqb l) rs) L ≡ cells_of L rs
unfolding tally
regions_sum [] c [] a = refl
regions_sum (l ∷ L) c [] a = regions_sum L c [] a
regions_sum L c (r ∷ rs) a =
    count_plus (λ l. eqb l r || any (eqb l) rs) (λ l. eqb l r) (λ l. any (eqb l) rs) (λ l. one-region l r rs (before-none r (suc r) rs (omega arith) a.1)) L
    ∙ ap (λ (n : ℕ). cells_in L r + n) (regions_sum L (suc r) rs a.1)

-- ---- only black cells

module _ {g L : List ℕ} (R : Right g L) (limit : ℕ) where
  -- a cell of a counted region is black
  counted-black : (c : ℕ) → any (eqb (get_or L c CN)) (counted limit L) ≡ true → eqb (get_or g c CB_FILLED) CB_BLACK ≡ true
  counted-black c t = eq-eqb (get_or g c CB_FILLED) CB_BLACK (right-black R c (omega (arith, R.len, counted-below limit L (get_or L c CN) t)))

  pub searched-black : length g ≡ CN → searched_in limit L ≤ tally CB_BLACK g
  unfolding tally
  searched-black h = count_mono (λ l. any (eqb l) (counted limit L)) (λ x. eqb x CB_BLACK) L g CN CB_FILLED (R.len ∙ sym h) (λ c _. counted-black c)

pub search_cost : SearchCost
unfolding searched_of
search_cost =
    record {
      sum = λ limit L. regions_sum L 0 (counted limit L) (roots_rising limit 0 L);
      black = λ limit g h. omega (arith, searched-black (right limit g [] h) limit (line-length limit g [] h), black-line g);
    }
