-- What a closing does to the cells and the creatures, and that its numbers add up. Assumes nothing.
use mathlib.Core.Path.{◌≡◌, refl, sym, ap, ◌∙◌}
use mathlib.Core.Bool.{Bool, true, false, cond, not, ◌&&◌}
use mathlib.Core.List.{List}
use mathlib.Core.Logic.{⊎_elim}
use Prim.Native.Nat.{ℕ, ◌+◌, ◌-◌, ◌≤◌, ◌<◌}
use native.Mathlib.Omega.{arith}
use borrow.Author.Tests.{eq-eqb, ne_eqb, eqb-true}
use lib.Dec.{eqb}
use lib.ListN.{length, get_or, take, drop, replicate, length-append, length-replicate, get_or-eq_default, get_or-map}
use lib.Seq.{take-append_seam, drop-append_seam}
use Rattle.laws.specs.Lists.{all, any, bit, count, tally}
use Rattle.laws.proofs.Choice.{below?, same?, and_left, cond_both}
use Rattle.laws.proofs.Counts.{count_map, count_plus}
use Rattle.laws.proofs.Filter.{count_ext, count-not, count_zero, any_zero, length-filter, all_filter, all_passed, all_map, all_true}
use Rattle.laws.proofs.Zip.{length-zip_with_lem, get_or-zip_with_lem, count_zip_more, count_zip_less, all-zip_with_lem}
use Rattle.cutter_ground.specs.Cells.{CN, CB_BLACK, CB_FILLED, CB_TRAIL, cell_at, black_at, line_count}
use Rattle.cutter_ground.specs.declared.Mover.{Mover}
use Rattle.cutter_joined.specs.Joined.{Right}
use Rattle.cutter_joined.proofs.Joined.{right-black, black_in_lem}
use Rattle.cutter_joined.proofs.Labels.{labels}
use Rattle.cutter_closing.specs.Counted.{counted}
use Rattle.cutter_closing.proofs.Roots.{counted-below}
use Rattle.cutter_closing.specs.Closing.{line_claimed, claim_line, region_of, kept, is_taken, claim, remaining, close_cut}
use Rattle.cutter_closing.specs.Account.{taken_in, taken_of, gone_of}
use Rattle.cutter_closing.proofs.Labels.{length-claim_line_lem}
use Rattle.cutter_ground.specs.Movers.{MAX_ENEMIES, place_of, blank_slot}

-- ---- the line step

line-black : (x : ℕ) → eqb (line_claimed x) CB_BLACK ≡ eqb x CB_BLACK
line-black x = ⊎_elim (λ e. rw (eq-eqb x CB_TRAIL e, ne_eqb x CB_BLACK (λ z. omega arith))) (λ n. rw (ne_eqb x CB_TRAIL n)) (same? x CB_TRAIL)

line_filled : (x : ℕ) → bit (eqb (line_claimed x) CB_FILLED) ≡ bit (eqb x CB_FILLED) + bit (eqb x CB_TRAIL)
line_filled x = ⊎_elim (λ e. rw (eq-eqb x CB_TRAIL e, ne_eqb x CB_FILLED (λ z. omega arith))) (λ n. rw (ne_eqb x CB_TRAIL n) (omega arith)) (same? x CB_TRAIL)

line-none : (x : ℕ) → eqb (line_claimed x) CB_TRAIL ≡ false
line-none x = ⊎_elim (λ e. rw (eq-eqb x CB_TRAIL e)) (λ n. rw (ne_eqb x CB_TRAIL n) (ne_eqb x CB_TRAIL n)) (same? x CB_TRAIL)

module _ (g : List ℕ) where
  pub black-line : tally CB_BLACK (claim_line g) ≡ tally CB_BLACK g
  unfolding tally
  black-line = count_map (λ x. eqb x CB_BLACK) line_claimed g ∙ count_ext (λ x. eqb (line_claimed x) CB_BLACK) (λ x. eqb x CB_BLACK) (λ _. true) (λ x _. line-black x) g (all_true g)

  filled_line : tally CB_FILLED (claim_line g) ≡ tally CB_FILLED g + line_count g
  unfolding tally
  filled_line = count_map (λ x. eqb x CB_FILLED) line_claimed g ∙ count_plus (λ x. eqb (line_claimed x) CB_FILLED) (λ x. eqb x CB_FILLED) (λ x. eqb x CB_TRAIL) line_filled g

-- ---- the claim

black-bit : (t : Bool) (x : ℕ) → (t ≡ true → x ≡ CB_BLACK) → bit (eqb (cond t CB_FILLED x) CB_BLACK) + bit t ≡ bit (eqb x CB_BLACK)
black-bit true x f = rw (eq-eqb x CB_BLACK (f refl))
black-bit false x f = omega arith

filled_bit : (t : Bool) (x : ℕ) → (t ≡ true → x ≡ CB_BLACK) → bit (eqb (cond t CB_FILLED x) CB_FILLED) ≡ bit (eqb x CB_FILLED) + bit t
filled_bit true x f = let e = f refl in rw (ne_eqb x CB_FILLED (λ z. omega arith))
filled_bit false x f = omega arith

module _ {h L : List ℕ} (R : Right h L) (len : length h ≡ CN) (limit : ℕ) (es : List Mover) where
  -- only black cells are taken
  taken_black : (c : ℕ) → is_taken (counted limit L) (kept limit L es) (get_or L c CN) ≡ true → cell_at h c ≡ CB_BLACK
  taken_black c t = right-black R c (omega (arith, R.len, counted-below limit L (get_or L c CN) (and_left (any (eqb (get_or L c CN)) (counted limit L)) _ t)))

  black-claim : tally CB_BLACK (claim (counted limit L) (kept limit L es) h L) + taken_in limit L es ≡ tally CB_BLACK h
  unfolding claim tally
  black-claim =
      count_zip_less (λ x r. cond (is_taken (counted limit L) (kept limit L es) r) CB_FILLED x) (λ x. eqb x CB_BLACK) (λ x. eqb x CB_BLACK)
      (is_taken (counted limit L) (kept limit L es)) CB_FILLED CN h L (len ∙ sym R.len)
      (λ i k. black-bit (is_taken (counted limit L) (kept limit L es) (get_or L i CN)) (cell_at h i) (taken_black i))

  filled_claim : tally CB_FILLED (claim (counted limit L) (kept limit L es) h L) ≡ tally CB_FILLED h + taken_in limit L es
  unfolding claim tally
  filled_claim =
      count_zip_more (λ x r. cond (is_taken (counted limit L) (kept limit L es) r) CB_FILLED x) (λ x. eqb x CB_FILLED) (λ x. eqb x CB_FILLED)
      (is_taken (counted limit L) (kept limit L es)) CB_FILLED CN h L (len ∙ sym R.len)
      (λ i k. filled_bit (is_taken (counted limit L) (kept limit L es) (get_or L i CN)) (cell_at h i) (taken_black i))

  claim-length : length (claim (counted limit L) (kept limit L es) h L) ≡ CN
  unfolding claim
  claim-length = length-zip_with_lem (λ x r. cond (is_taken (counted limit L) (kept limit L es) r) CB_FILLED x) h L (len ∙ sym R.len) ∙ len

  claim_at : (c : ℕ) → c < CN → cell_at (claim (counted limit L) (kept limit L es) h L) c ≡ cond (is_taken (counted limit L) (kept limit L es) (get_or L c CN)) CB_FILLED (cell_at h c)
  unfolding claim
  claim_at c k = get_or-zip_with_lem (λ x r. cond (is_taken (counted limit L) (kept limit L es) r) CB_FILLED x) h L c CB_FILLED CN CB_FILLED (omega arith) (omega (arith, R.len))

all-claim : (f : ℕ → Bool) (rs : List ℕ) (w : ℕ) (h L : List ℕ) → f CB_FILLED ≡ true → all f h ≡ true → all f (claim rs w h L) ≡ true
unfolding claim
all-claim f rs w h L e a = all-zip_with_lem (λ x r. cond (is_taken rs w r) CB_FILLED x) f f (λ x r i. cond_both (λ y. f y ≡ true) (is_taken rs w r) CB_FILLED x (λ _. e) (λ _. i)) h L a

-- the kept region is not taken
not_taken : (b : Bool) → cond (b && false) CB_FILLED CB_BLACK ≡ CB_BLACK
not_taken true = refl
not_taken false = refl

-- ---- the closing

module _ (limit : ℕ) (g : List ℕ) (es : List Mover) (len : length g ≡ CN) where
  pub line-length : length (claim_line g) ≡ CN
  line-length = length-claim_line_lem g ∙ len

  pub right : Right (claim_line g) (labels (claim_line g)).0
  right = (labels (claim_line g)).1 line-length

  -- claimed after = claimed before + line + taken
  pub claimed-after : tally CB_FILLED (close_cut limit g es).grid ≡ tally CB_FILLED g + line_count g + taken_of limit g es
  unfolding close_cut taken_of
  claimed-after = filled_claim right line-length limit es ∙ ap (λ (n : ℕ). n + taken_in limit (labels (claim_line g)).0 es) (filled_line g)

  -- black after = black before - taken
  pub black-after : tally CB_BLACK (close_cut limit g es).grid + taken_of limit g es ≡ tally CB_BLACK g
  unfolding close_cut taken_of
  black-after = black-claim right line-length limit es ∙ black-line g

  pub length-after : length (close_cut limit g es).grid ≡ CN
  unfolding close_cut
  length-after = claim-length right line-length limit es

  -- what holds of every code and of claimed cells holds afterwards
  pub all_after : (f : ℕ → Bool) → f CB_FILLED ≡ true → all f g ≡ true → all f (close_cut limit g es).grid ≡ true
  unfolding close_cut
  all_after f e a =
      all-claim f (counted limit (labels (claim_line g)).0) (kept limit (labels (claim_line g)).0 es) (claim_line g) (labels (claim_line g)).0 e
      (all_map f f line_claimed (λ x i. cond_both (λ y. f y ≡ true) (eqb x CB_TRAIL) CB_FILLED x (λ _. e) (λ _. i)) g a)

  -- line after = 0
  none-line : all (λ x. not (eqb x CB_TRAIL)) (close_cut limit g es).grid ≡ true
  unfolding close_cut
  none-line =
      all-claim (λ x. not (eqb x CB_TRAIL)) (counted limit (labels (claim_line g)).0) (kept limit (labels (claim_line g)).0 es) (claim_line g) (labels (claim_line g)).0 refl
      (all_map (λ x. not (eqb x CB_TRAIL)) (λ _. true) line_claimed (λ x _. rw (line-none x)) g (all_true g))

  pub line_after : tally CB_TRAIL (close_cut limit g es).grid ≡ 0
  unfolding tally
  line_after = count_zero (λ x. eqb x CB_TRAIL) (close_cut limit g es).grid none-line

  pub no_line_after : any (λ x. eqb x CB_TRAIL) (close_cut limit g es).grid ≡ false
  no_line_after = any_zero (λ x. eqb x CB_TRAIL) (close_cut limit g es).grid none-line

  -- the cell c afterwards
  cell-after : (c : ℕ) → c < CN → cell_at (close_cut limit g es).grid c
      ≡ cond (is_taken (counted limit (labels (claim_line g)).0) (kept limit (labels (claim_line g)).0 es) (get_or (labels (claim_line g)).0 c CN)) CB_FILLED
      (line_claimed (cell_at g c))
  unfolding close_cut
  cell-after c k =
      claim_at right line-length limit es c k
      ∙ ap (λ (x : ℕ). cond (is_taken (counted limit (labels (claim_line g)).0) (kept limit (labels (claim_line g)).0 es) (get_or (labels (claim_line g)).0 c CN)) CB_FILLED
      x) (get_or-map line_claimed g c CB_FILLED)

  -- a claimed cell stays claimed: the ring among them
  pub claimed-stays : (c : ℕ) → cell_at g c ≡ CB_FILLED → cell_at (close_cut limit g es).grid c ≡ CB_FILLED
  claimed-stays c e =
      ⊎_elim (λ k. cell-after c k ∙ cond_both (λ y. y ≡ CB_FILLED)
      (is_taken (counted limit (labels (claim_line g)).0) (kept limit (labels (claim_line g)).0 es) (get_or (labels (claim_line g)).0 c CN)) CB_FILLED
      (line_claimed (cell_at g c)) (λ _. refl) (λ _. rw e))
      (λ k. get_or-eq_default (close_cut limit g es).grid CB_FILLED {n = c} (omega (arith, length-after))) (below? c CN)

  -- ---- the creatures

  -- creatures before = creatures after + gone
  pub creatures-after : length es ≡ (close_cut limit g es).count + gone_of limit g es
  unfolding close_cut remaining gone_of
  creatures-after =
      let f : Mover → Bool = λ m. eqb (region_of (labels (claim_line g)).0 m) (kept limit (labels (claim_line g)).0 es) in
      count-not f es ∙ ap (λ (n : ℕ). n + count (λ m. not (f m)) es) (sym (length-filter f es))

  -- those that remain fill the first slots, and zeros the others
  pub left_after : take (close_cut limit g es).count (close_cut limit g es).enemies ≡ remaining (labels (claim_line g)).0 (kept limit (labels (claim_line g)).0 es) es
  unfolding close_cut
  left_after =
      let rest = remaining (labels (claim_line g)).0 (kept limit (labels (claim_line g)).0 es) es in
      take-append_seam rest (replicate (MAX_ENEMIES - length rest) blank_slot)

  pub spare-after : drop (close_cut limit g es).count (close_cut limit g es).enemies ≡ replicate (MAX_ENEMIES - (close_cut limit g es).count) blank_slot
  unfolding close_cut
  spare-after =
      let rest = remaining (labels (claim_line g)).0 (kept limit (labels (claim_line g)).0 es) es in
      drop-append_seam rest (replicate (MAX_ENEMIES - length rest) blank_slot)

  pub few-after : (close_cut limit g es).count ≤ length es
  few-after = omega (arith, creatures-after)

  pub slots-after : length es ≤ MAX_ENEMIES → length (close_cut limit g es).enemies ≡ MAX_ENEMIES
  unfolding close_cut
  slots-after h =
      let rest = remaining (labels (claim_line g)).0 (kept limit (labels (claim_line g)).0 es) es in
      length-append rest (replicate (MAX_ENEMIES - length rest) blank_slot) ∙ ap (λ (n : ℕ). length rest + n) (length-replicate (MAX_ENEMIES - length rest) blank_slot)
      ∙ omega (arith, few-after)

  -- what holds of each creature holds of each that remains
  pub all_left : (f : Mover → Bool) → all f es ≡ true → all f (take (close_cut limit g es).count (close_cut limit g es).enemies) ≡ true
  unfolding remaining
  all_left f a = rw left_after (all_filter (λ m. eqb (region_of (labels (claim_line g)).0 m) (kept limit (labels (claim_line g)).0 es)) f es a)

  -- a black cell of the kept region stays black
  kept-black : (m : Mover) → eqb (region_of (labels (claim_line g)).0 m) (kept limit (labels (claim_line g)).0 es) ≡ true → black_at g (place_of m) ≡ true
      → black_at (close_cut limit g es).grid (place_of m) ≡ true
  kept-black m e b =
      let k = eqb-true (cell_at g (place_of m)) CB_BLACK b in
      eq-eqb (cell_at (close_cut limit g es).grid (place_of m)) CB_BLACK
      (cell-after (place_of m) (omega (arith, black_in_lem g (place_of m) k))
      ∙ rw (e, k) (not_taken (any (eqb (region_of (labels (claim_line g)).0 m)) (counted limit (labels (claim_line g)).0))))

  -- every creature left stands on black
  pub left_on_black : all (λ m. black_at g (place_of m)) es ≡ true
      → all (λ m. black_at (close_cut limit g es).grid (place_of m)) (take (close_cut limit g es).count (close_cut limit g es).enemies) ≡ true
  unfolding remaining
  left_on_black a = rw left_after
      (all_passed (λ m. eqb (region_of (labels (claim_line g)).0 m) (kept limit (labels (claim_line g)).0 es)) (λ m. black_at g (place_of m))
      (λ m. black_at (close_cut limit g es).grid (place_of m)) kept-black es a)
