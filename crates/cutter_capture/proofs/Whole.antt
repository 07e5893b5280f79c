-- The steps together are the closing. Assumes nothing.
use mathlib.Core.Path.{◌≡◌, refl, sym, ap, subst, ◌∙◌}
use mathlib.Core.Bool.{Bool, true, false, cond, ◌&&◌}
use mathlib.Core.List.{List, zip_with}
use mathlib.Core.Logic.{⊎_elim}
use Prim.Native.Nat.{ℕ, ◌+◌, ◌-◌, ◌≤◌, ◌<◌}
use native.Mathlib.Omega.{arith}
use borrow.Author.Tests.{eq-eqb, ne_eqb, lt-ltb, le-ltb}
use lib.Dec.{eqb}
use lib.ListN.{length, get_or, take, length-take, get_or-eq_default}
use lib.Seq.{ext_get_or}
use Rattle.laws.specs.Lists.{any, bit, count, filter, tally}
use Rattle.laws.proofs.Choice.{same?, below?}
use Rattle.laws.proofs.Counts.{count_le, count_same, count_plus}
use Rattle.laws.proofs.Filter.{filter_ext, all_true}
use Rattle.laws.proofs.Zip.{length-zip_with_lem, get_or-zip_with_lem}
use Rattle.cutter_ground.specs.Cells.{CN, CB_FILLED}
use Rattle.cutter_ground.specs.CodeVisit.{SEEN}
use Rattle.cutter_ground.specs.declared.Mover.{Mover}
use Rattle.cutter_joined.specs.Joined.{Right}
use Rattle.cutter_joined.proofs.Joined.{right_le, black?}
use Rattle.cutter_joined.proofs.Labels.{labels}
use Rattle.cutter_closing.specs.Counted.{counted, cells_in}
use Rattle.cutter_closing.specs.Closing.{claim_line, region_of, kept, is_taken, claim, remaining, closed, close_cut}
use Rattle.cutter_closing.proofs.Labels.{length-claim_line_lem}
use Rattle.cutter_closing.specs.Account.{taken_in}
use Rattle.cutter_closing.specs.Cost.{searched_in, searched_of}
use Rattle.cutter_closing.specs.declared.Cut.{Cut}
use Rattle.cutter_capture.specs.declared.Herd.{Herd}
use Rattle.cutter_capture.specs.declared.Closed.{Closed}
use Rattle.cutter_capture.specs.CodeSteps.{KEPT, mark_of, keep_of, shut, Retained, Divided, Closes, ClosedBy, CutClosed}
use Rattle.cutter_capture.specs.CodeChoosing.{Nothing, Keeps, ChosenBy, Markable, Marked}
use Rattle.cutter_ground.specs.Movers.{MAX_ENEMIES, place_of}

and-true : (b : Bool) → (b && true) ≡ b
and-true true = refl
and-true false = refl

and-false : (b : Bool) → (b && false) ≡ false
and-false true = refl
and-false false = refl

bit-seen : (b : Bool) → eqb (bit b) SEEN ≡ b
bit-seen true = refl
bit-seen false = refl

bit_kept : (b : Bool) → eqb (bit b) KEPT ≡ false
bit_kept true = refl
bit_kept false = refl

module _ {g L : List ℕ} (R : Right g L) {limit : ℕ} {es : List Mover} {seen q : List ℕ} {a b taken : ℕ} (h : ChosenBy L limit es seen q a b taken) where
  -- past the grid's end stands CN
  label_in : (c : ℕ) → get_or L c CN < CN → c < CN
  label_in c l = ⊎_elim (λ k. k) (λ k. absurd (omega (arith, get_or-eq_default L CN {n = c} (omega (arith, R.len))))) (below? c CN)

  label_top : (c : ℕ) → CN ≤ get_or L c CN → get_or L c CN ≡ CN
  label_top c l =
      ⊎_elim (λ i. ⊎_elim (λ k. absurd (omega (arith, right_le R c k))) (λ k. R.other c k) (black? g c))
      (λ i. get_or-eq_default L CN (omega (arith, R.len))) (below? c CN)

  pub markable : Markable seen q a b
  markable =
      record {
        len = h.len;
        long = h.long;
        room = h.room;
        order = ⊎_elim (λ x. omega (arith, x.none)) (λ x. omega (arith, x.some)) h.best;
        inn = λ k i j. ⊎_elim (λ x. absurd (omega (arith, x.none))) (λ x. label_in (get_or q k 0) (omega (arith, x.theirs k i j, x.inn))) h.best;
      }

  -- of the cells taken from the queue, those of the kept region stay black and the others are claimed
  bits : (x w : ℕ) → any (eqb w) (counted limit L) ≡ true → bit (any (eqb x) (counted limit L)) ≡ bit (is_taken (counted limit L) w x) + bit (eqb x w)
  bits x w t =
      ⊎_elim (λ e. let y : any (eqb x) (counted limit L) ≡ true = subst (λ (v : ℕ). any (eqb v) (counted limit L) ≡ true) (sym e) t in rw (y, eq-eqb x w e))
      (λ n. rw (ne_eqb x w n, and-true (any (eqb x) (counted limit L))) (omega arith)) (same? x w)

  pub claimed-is : taken ≡ taken_in limit L es + (b - a)
  unfolding tally
  claimed-is = h.account ∙ ⊎_elim none some h.best
    where
      none : Nothing limit L es a b → count (λ l. any (eqb l) (counted limit L)) L ≡ taken_in limit L es + (b - a)
      none x =
          let e = count_same (λ l. any (eqb l) (counted limit L)) (is_taken (counted limit L) (kept limit L es)) L L CN CN refl (λ c i. rw (x.off c)) in
          omega (arith, e, x.none)

      some : Keeps limit L es q a b → count (λ l. any (eqb l) (counted limit L)) L ≡ taken_in limit L es + (b - a)
      some x =
          let e : count (λ l. any (eqb l) (counted limit L)) L
          ≡ taken_in limit L es + cells_in L (kept limit L es) = count_plus (λ l. any (eqb l) (counted limit L)) (is_taken (counted limit L) (kept limit L es))
          (λ l. eqb l (kept limit L es)) (λ l. bits l (kept limit L es) x.among) L in
          omega (arith, e, x.size)

  -- which are no more than the cells
  pub taken_le : taken ≤ CN
  taken_le = omega (arith, h.account, count_le (λ l. any (eqb l) (counted limit L)) L, R.len)

  module _ {seen' : List ℕ} (m : Marked seen q a b seen') where
    nowhere : Nothing limit L es a b → (c : ℕ) → get_or seen' c 0 ≡ 0
    nowhere x c = m.miss c (λ o. let i = o.1 in let j = o.2 in omega (arith, x.none)) ∙ h.marks c ∙ ap bit (x.off c)

    module _ (x : Keeps limit L es q a b) where
      in_kept : (c : ℕ) → get_or L c CN ≡ kept limit L es → get_or seen' c 0 ≡ KEPT
      in_kept c e = m.hit c (x.queued c e)

      elsewhere : (c : ℕ) → (get_or L c CN ≡ kept limit L es → ⊥) → get_or seen' c 0 ≡ bit (any (eqb (get_or L c CN)) (counted limit L))
      elsewhere c n = m.miss c (λ o. n (ap (λ (k : ℕ). get_or L k CN) (sym o.3) ∙ x.theirs o.0 o.1 o.2)) ∙ h.marks c

    -- a cell is marked and not kept where its region is taken
    taken_is : (c : ℕ) → eqb (get_or seen' c 0) SEEN ≡ is_taken (counted limit L) (kept limit L es) (get_or L c CN)
    taken_is c = ⊎_elim none some h.best
      where
        none : Nothing limit L es a b → eqb (get_or seen' c 0) SEEN ≡ is_taken (counted limit L) (kept limit L es) (get_or L c CN)
        none x = rw (nowhere x c, x.off c)

        some : Keeps limit L es q a b → eqb (get_or seen' c 0) SEEN ≡ is_taken (counted limit L) (kept limit L es) (get_or L c CN)
        some x =
            ⊎_elim
            (λ e. rw (in_kept x c e, eq-eqb (get_or L c CN) (kept limit L es) e) (sym (and-false (any (eqb (get_or L c CN)) (counted limit L)))))
            (λ n. rw (elsewhere x c n, ne_eqb (get_or L c CN) (kept limit L es) n)
            (bit-seen (any (eqb (get_or L c CN)) (counted limit L)) ∙ sym (and-true (any (eqb (get_or L c CN)) (counted limit L)))))
            (same? (get_or L c CN) (kept limit L es))

    grid_is : length g ≡ CN → zip_with shut g seen' ≡ claim (counted limit L) (kept limit L es) g L
    unfolding claim
    grid_is lg =
        let f : ℕ → ℕ → ℕ = λ x r. cond (is_taken (counted limit L) (kept limit L es) r) CB_FILLED x in
        let la : length (zip_with shut g seen') ≡ CN = length-zip_with_lem shut g seen' (lg ∙ sym m.len) ∙ lg in
        let lb : length (zip_with f g L) ≡ CN = length-zip_with_lem f g L (lg ∙ sym R.len) ∙ lg in
        ext_get_or 0 (zip_with shut g seen') (zip_with f g L) (la ∙ sym lb) (λ c i.
        get_or-zip_with_lem shut g seen' c 0 0 0 (omega arith) (omega (arith, m.len))
        ∙ ap (λ (t : Bool). cond t CB_FILLED (get_or g c 0)) (taken_is c)
        ∙ sym (get_or-zip_with_lem f g L c 0 CN 0 (omega arith) (omega (arith, R.len))))

    -- a creature has the mark to keep where it stands in the kept region
    keep-is : (c : ℕ) → eqb (get_or seen' c 0) (keep_of a b) ≡ eqb (get_or L c CN) (kept limit L es)
    keep-is c = ⊎_elim none some h.best
      where
        none : Nothing limit L es a b → eqb (get_or seen' c 0) (keep_of a b) ≡ eqb (get_or L c CN) (kept limit L es)
        none x = rw (nowhere x c, le-ltb a b (omega (arith, x.none)), x.keep) (sym (eq-eqb (get_or L c CN) CN (label_top c (x.all c))))

        some : Keeps limit L es q a b → eqb (get_or seen' c 0) (keep_of a b) ≡ eqb (get_or L c CN) (kept limit L es)
        some x =
            ⊎_elim
            (λ e. rw (in_kept x c e, lt-ltb a b x.some, eq-eqb (get_or L c CN) (kept limit L es) e))
            (λ n. rw (elsewhere x c n, lt-ltb a b x.some, ne_eqb (get_or L c CN) (kept limit L es) n) (bit_kept (any (eqb (get_or L c CN)) (counted limit L))))
            (same? (get_or L c CN) (kept limit L es))

    herd-is : filter (λ e. eqb (mark_of seen' e) (keep_of a b)) es ≡ remaining L (kept limit L es) es
    unfolding remaining
    herd-is = filter_ext (λ e. eqb (mark_of seen' e) (keep_of a b)) (λ e. eqb (region_of L e) (kept limit L es)) (λ (_ : Mover). true) (λ e _. keep-is (place_of e)) es (all_true es)

    pub steps-closed : length g ≡ CN → (g' : List ℕ) (r : Herd) (w : ℕ) → g' ≡ zip_with shut g seen' → w ≡ keep_of a b → Retained seen' w es r
        → ◌≡◌ {A = Cut} (record { grid = g'; enemies = r.enemies; count = r.count }) (closed limit g L es)
    steps-closed lg g' r w e k t = rw (e, t.slot, t.many, k, herd-is, grid_is lg)

-- ---- the line is claimed first

module _ (g : List ℕ) {h : List ℕ} (e : h ≡ claim_line g) where
  pub line-closes : {enemies : List Mover} {count limit : ℕ} → Closes g enemies count limit → Divided h (take count enemies) limit
  line-closes {enemies} {count} c =
      let few : length (take count enemies) ≤ MAX_ENEMIES = simp length-take (omega (arith, c.closable.few)) in
      record { cells = ap length e ∙ length-claim_line_lem g ∙ c.cells; placed = record { few = few; on_grid = c.closable.on_grid }; some = c.some }

  pub closed-line : {limit : ℕ} {es : List Mover} {g' : List ℕ} {r : Closed} → ClosedBy (labels h).0 limit h es g' r → CutClosed limit g es g' r
  unfolding close_cut searched_of
  closed-line {limit} {es} c =
      record { cut = c.cut ∙ ap (λ (x : List ℕ). closed limit x (labels x).0 es) e; cost = c.cost ∙ ap (λ (x : List ℕ). searched_in limit (labels x).0) e }
