-- What holds between two searches: the regions that begin before s are marked and stand on the queue, and the best of them leads. Assumes nothing.
use mathlib.Core.Path.{◌≡◌, refl, sym, ap, subst, ◌∙◌}
use mathlib.Core.Bool.{Bool, true, false, not, ◌||◌, false≢true}
use mathlib.Core.List.{List, [], ◌∷◌}
use mathlib.Core.Logic.{◌⊎◌, inl, inr, ⊎_elim}
use Prim.Native.Nat.{ℕ, zero, suc, ◌+◌, ◌-◌, ◌≤◌, ◌<◌}
use native.Mathlib.Nat.{le_antisymm}
use native.Mathlib.Numerals.{add-one}
use native.Mathlib.Omega.{arith}
use borrow.Author.Tests.{eq-eqb, ne_eqb, lt-ltb, le-ltb}
use lib.Dec.{eqb, ltb}
use lib.ListN.{length, get_or, take, drop, replicate, length-replicate}
use Rattle.laws.specs.Lists.{any, bit, count, tally}
use Rattle.laws.proofs.Choice.{below?, same?, cond_both}
use Rattle.laws.proofs.Lists.{drop-one, drop_end, get_or_replicate_same_lem}
use Rattle.laws.proofs.Counts.{count_same, count_plus}
use Rattle.laws.proofs.Filter.{count-not}
use Rattle.cutter_ground.specs.Cells.{CN}
use Rattle.cutter_ground.specs.CodeVisit.{SEEN}
use Rattle.cutter_ground.specs.declared.Mover.{Mover}
use Rattle.cutter_joined.specs.Joined.{Black, Joined, here, Right}
use Rattle.cutter_joined.proofs.Joined.{right_le, right-same, right_root, right-joined, right-black}
use Rattle.cutter_closing.specs.Counted.{roots_from, counted, cells_in}
use Rattle.cutter_regions.specs.CodeSeeking.{Ready, Queued, Sought}
use Rattle.cutter_closing.proofs.Roots.{roots_none, roots_root, roots_pass}
use Rattle.cutter_closing.specs.Closing.{region_of, creatures_in, beats, best, kept_of, kept}
use Rattle.cutter_capture.specs.declared.Lead.{Lead}
use Rattle.cutter_capture.specs.CodeSteps.{mark_of, having, more, leader}
use Rattle.cutter_capture.specs.CodeChoosing.{ChosenBy}
use Rattle.cutter_ground.specs.Movers.{place_of}

-- ---- the number s passed, at a label x

bit_zero : (b : Bool) → eqb (bit b) 0 ≡ not b
bit_zero true = refl
bit_zero false = refl

bit-one : (b : Bool) → eqb (bit b) 1 ≡ b
bit-one true = refl
bit-one false = refl

or-false : (b : Bool) → (b || false) ≡ b
or-false true = refl
or-false false = refl

below_next : (x s : ℕ) → (x ≡ s → ⊥) → ltb x s ≡ ltb x (s + 1)
below_next x s n =
    ⊎_elim (λ h. lt-ltb x s h ∙ sym (lt-ltb x (s + 1) (omega arith)))
    (λ h. le-ltb x s h ∙ sym (le-ltb x (s + 1) (⊎_elim (λ w. absurd (n (omega arith))) (λ w. w) (below? x (s + 1))))) (below? x s)

below-here : (x s : ℕ) → x ≡ s → (ltb x s ≡ false) × (ltb x (s + 1) ≡ true) × (eqb x s ≡ true)
below-here x s e = (le-ltb x s (omega arith), lt-ltb x (s + 1) (omega arith), eq-eqb x s e)

bit-step : (x s : ℕ) → bit (ltb x (s + 1)) ≡ bit (ltb x s) + bit (eqb x s)
bit-step x s =
    ⊎_elim (λ e. let p = below-here x s e in rw (p.0, p.1, p.2))
    (λ n. rw (ne_eqb x s n, below_next x s n) (omega arith)) (same? x s)

not_step : (x s : ℕ) → bit (not (ltb x s)) ≡ bit (not (ltb x (s + 1))) + bit (eqb x s)
not_step x s =
    ⊎_elim (λ e. let p = below-here x s e in rw (p.0, p.1, p.2))
    (λ n. rw (ne_eqb x s n, below_next x s n) (omega arith)) (same? x s)

or_step : (x s : ℕ) (r : Bool) → (ltb x s || (eqb x s || r)) ≡ (ltb x (s + 1) || r)
or_step x s r =
    ⊎_elim (λ e. let p = below-here x s e in rw (p.0, p.1, p.2))
    (λ n. rw (ne_eqb x s n, below_next x s n)) (same? x s)

-- ---- what is still to be counted from the cell s on, where n regions have been

abbrev rest : ℕ → List ℕ → ℕ → ℕ → List ℕ
rest limit L n s = take (limit - n) (roots_from s (drop s L))

rest_root : (limit : ℕ) (L : List ℕ) (n s : ℕ) → n < limit → s < length L → get_or L s CN ≡ s → rest limit L n s ≡ s ∷ rest limit L (n + 1) (s + 1)
rest_root limit L n s h l r =
    let m = limit - (n + 1) in
    let e : limit - n ≡ suc m = omega arith in
    ap (λ (k : ℕ). take k (roots_from s (drop s L))) e
    ∙ ap (λ (x : List ℕ). take (suc m) (roots_from s x)) (drop-one L s CN l)
    ∙ ap (λ (x : List ℕ). take (suc m) x) (roots_root s (get_or L s CN) (drop (s + 1) L) r)
    ∙ ap (λ (x : ℕ). s ∷ take m (roots_from x (drop (s + 1) L))) (sym (add-one s))

rest-pass : (limit : ℕ) (L : List ℕ) (n s : ℕ) → s < length L → (get_or L s CN ≡ s → ⊥) → rest limit L n s ≡ rest limit L n (s + 1)
rest-pass limit L n s l r =
    ap (λ (x : List ℕ). take (limit - n) (roots_from s x)) (drop-one L s CN l)
    ∙ ap (λ (x : List ℕ). take (limit - n) x) (roots_pass s (get_or L s CN) (drop (s + 1) L) r)
    ∙ ap (λ (x : ℕ). take (limit - n) (roots_from x (drop (s + 1) L))) (sym (add-one s))

take_none : (k : ℕ) → take {A = ℕ} k [] ≡ []
take_none zero = refl
take_none (suc k) = refl

rest_full : (limit : ℕ) (L : List ℕ) (n s : ℕ) → n ≡ limit → rest limit L n s ≡ []
rest_full limit L n s e = let z : limit - n ≡ 0 = omega arith in ap (λ (k : ℕ). take k (roots_from s (drop s L))) z

rest_end : (limit : ℕ) (L : List ℕ) (n s : ℕ) → length L ≡ s → rest limit L n s ≡ []
rest_end limit L n s e =
    ap (λ (x : List ℕ). take (limit - n) (roots_from s x)) (drop_end L s e) ∙ ap (λ (x : List ℕ). take (limit - n) x) (roots_none s) ∙ take_none (limit - n)

-- ---- the best so far

module _ (L : List ℕ) (es : List Mover) where
  best_won : (w r : ℕ) (rs : List ℕ) → beats L es r w ≡ true → best L es w (r ∷ rs) ≡ best L es r rs
  unfolding best
  best_won w r rs h = rw (h, best)

  best-lost : (w r : ℕ) (rs : List ℕ) → beats L es r w ≡ false → best L es w (r ∷ rs) ≡ best L es w rs
  unfolding best
  best-lost w r rs h = rw (h, best)

  best_last : (w : ℕ) → best L es w [] ≡ w
  unfolding best
  best_last w = refl

-- any region with a cell is more than nothing
more_than_none : (e k : ℕ) → 0 < k → more e k 0 0 ≡ true
more_than_none zero k h = lt-ltb 0 k h
more_than_none (suc e) k h = let l : 0 < suc e = omega arith in rw (lt-ltb 0 (suc e) l)

-- no region has been found
pub record None (limit : ℕ) (L : List ℕ) (es : List Mover) (l : Lead) (n s : ℕ) : Type 0 where
  pub zero : n ≡ 0
  pub empty : l.part.from ≡ l.part.to
  pub start : l.part.to ≡ 0
  pub nobody : l.crowd ≡ 0
  pub clear : (c : ℕ) → s ≤ get_or L c CN
  pub left : kept_of L es (rest limit L n s) ≡ kept limit L es

-- the region w is the best so far, and the queue's part from .. to holds just its cells
pub record Best (limit : ℕ) (L : List ℕ) (es : List Mover) (q : List ℕ) (t : ℕ) (l : Lead) (n s : ℕ) : Type 0 where
  pub w : ℕ
  pub past : w < s
  pub some : l.part.from < l.part.to
  pub room : l.part.to ≤ t
  pub theirs : (k : ℕ) → l.part.from ≤ k → k < l.part.to → get_or L (get_or q k 0) CN ≡ w
  pub queued : (c : ℕ) → get_or L c CN ≡ w → Queued q l.part.from l.part.to c
  pub size : l.part.to ≡ l.part.from + cells_in L w
  pub crowd : l.crowd ≡ creatures_in L es w
  pub left : best L es w (rest limit L n s) ≡ kept limit L es

pub record Between (g L : List ℕ) (limit : ℕ) (es : List Mover) (seen q : List ℕ) (l : Lead) (n t stood s : ℕ) : Type 0 where
  pub cells : length g ≡ CN
  pub len : length seen ≡ CN
  pub long : length q ≡ CN
  pub some : 0 < limit
  pub order : s ≤ CN
  pub few : n ≤ limit
  pub marks : (c : ℕ) → get_or seen c 0 ≡ bit (ltb (get_or L c CN) s)
  pub full : t + tally 0 seen ≡ CN
  pub earlier : (k : ℕ) → k < t → get_or L (get_or q k 0) CN < s
  pub once : (i j : ℕ) → i < t → j < t → get_or q i 0 ≡ get_or q j 0 → i ≡ j
  pub crowd : stood ≡ having seen es SEEN
  pub counts : (c : ℕ) → any (eqb (get_or L c CN)) (counted limit L) ≡ (ltb (get_or L c CN) s || any (eqb (get_or L c CN)) (rest limit L n s))
  pub lead : None limit L es l n s ⊎ Best limit L es q t l n s

-- the cells without a mark are those whose region begins at s or later
free_count : (L seen : List ℕ) (s : ℕ) → length seen ≡ length L → ((c : ℕ) → get_or seen c 0 ≡ bit (ltb (get_or L c CN) s)) → tally 0 seen ≡ count (λ x. not (ltb x s)) L
unfolding tally
free_count L seen s e m = count_same (λ x. eqb x 0) (λ x. not (ltb x s)) seen L 0 CN e (λ c h. ap (λ (x : ℕ). eqb x 0) (m c) ∙ bit_zero (ltb (get_or L c CN) s))

-- one number more
free_step : (L : List ℕ) (s : ℕ) → count (λ x. not (ltb x s)) L ≡ count (λ x. not (ltb x (s + 1))) L + cells_in L s
unfolding tally
free_step L s = count_plus (λ x. not (ltb x s)) (λ x. not (ltb x (s + 1))) (λ x. eqb x s) (λ x. not_step x s) L

module _ {g L : List ℕ} (R : Right g L) {limit : ℕ} {es : List Mover} {seen q : List ℕ} {l : Lead} {n t stood s : ℕ} (b : Between g L limit es seen q l n t stood s) where
  pub lead_order : l.part.from ≤ l.part.to
  lead_order = ⊎_elim (λ x. omega (arith, x.empty)) (λ x. omega (arith, x.some)) b.lead

  module _ (inn : s < CN) where
    -- ---- a cell that begins no region

    module _ (off : Black g s → get_or seen s 0 ≡ 0 → ⊥) where
      no_root : get_or L s CN ≡ s → ⊥
      no_root e = off (right-black R s (omega arith)) (b.marks s ∙ ap bit (le-ltb (get_or L s CN) s (omega arith)))

      no_label : (c : ℕ) → get_or L c CN ≡ s → ⊥
      no_label c e = no_root (subst (λ (x : ℕ). get_or L x CN ≡ x) e (right_root R c (right-black R c (omega arith))))

      pass : rest limit L n s ≡ rest limit L n (s + 1)
      pass = rest-pass limit L n s (omega (arith, R.len)) no_root

      pub between_passed : Between g L limit es seen q l n t stood (s + 1)
      between_passed =
          record {
            cells = b.cells;
            len = b.len;
            long = b.long;
            some = b.some;
            order = omega arith;
            few = b.few;
            marks = λ c. b.marks c ∙ ap bit (below_next (get_or L c CN) s (no_label c));
            full = b.full;
            earlier = λ k h. omega (arith, b.earlier k h);
            once = b.once;
            crowd = b.crowd;
            counts = λ c. b.counts c ∙ ap (λ (r : List ℕ). ltb (get_or L c CN) s || any (eqb (get_or L c CN)) r) pass
                ∙ ap (λ (x : Bool). x || any (eqb (get_or L c CN)) (rest limit L n (s + 1))) (below_next (get_or L c CN) s (no_label c));
            lead = ⊎_elim
                (λ x. inl (record {
                  zero = x.zero;
                  empty = x.empty;
                  start = x.start;
                  nobody = x.nobody;
                  clear = λ c. ⊎_elim (λ h. absurd (no_label c (omega (arith, x.clear c)))) (λ h. h) (below? (get_or L c CN) (s + 1));
                  left = ap (kept_of L es) (sym pass)
                      ∙ x.left;
                }))
                (λ x. inr (record {
                  w = x.w;
                  past = omega (arith, x.past);
                  some = x.some;
                  room = x.room;
                  theirs = x.theirs;
                  queued = x.queued;
                  size = x.size;
                  crowd = x.crowd;
                  left = ap (best L es x.w) (sym pass) ∙ x.left;
                }))
                b.lead;
          }

    -- ---- a cell that begins a region

    module _ (k : Black g s) (e : get_or seen s 0 ≡ 0) where
      pub begins : get_or L s CN ≡ s
      begins = le_antisymm (right_le R s k) (⊎_elim (λ h. let z = ap bit (lt-ltb (get_or L s CN) s h) in absurd (omega (arith, b.marks s))) (λ h. h) (below? (get_or L s CN) s))

      -- the cells of its region
      theirs : (c : ℕ) → get_or L c CN ≡ s → Joined g s c
      theirs c h = right-joined R s c k (right-black R c (omega arith)) (begins ∙ sym h)

      label : (c : ℕ) → Joined g s c → get_or L c CN ≡ s
      label c j = sym (right-same R s c j) ∙ begins

      pub between-ready : Ready g seen q t s
      between-ready =
          record {
            cells = b.cells;
            len = b.len;
            long = b.long;
            black = k;
            fresh = λ c j. b.marks c ∙ ap bit (le-ltb (get_or L c CN) s (omega (arith, label c j)));
            room = omega (arith, b.full);
          }

      module _ (d : n ≡ limit → ⊥) (seen' q' : List ℕ) (t' : ℕ) (w : Sought g seen q t s seen' q' t') where
        below_limit : n < limit
        below_limit = ⊎_elim (λ h. h) (λ h. absurd (d (omega (arith, b.few)))) (below? n limit)

        next : rest limit L n s ≡ s ∷ rest limit L (n + 1) (s + 1)
        next = rest_root limit L n s below_limit (omega (arith, R.len)) begins

        found_marks : (c : ℕ) → get_or seen' c 0 ≡ bit (ltb (get_or L c CN) (s + 1))
        found_marks c =
            ⊎_elim (λ h. w.all c (theirs c h) ∙ ap bit (sym (lt-ltb (get_or L c CN) (s + 1) (omega arith))))
            (λ h. ⊎_elim (λ o. o ∙ b.marks c ∙ ap bit (below_next (get_or L c CN) s h)) (λ j. absurd (h (label c j))) (w.only c))
            (same? (get_or L c CN) s)

        pub found_size : t' ≡ t + cells_in L s
        found_size =
            omega (arith, w.left_over, free_count L seen s (b.len ∙ sym R.len) b.marks, free_count L seen' (s + 1) (w.len ∙ sym R.len) found_marks, free_step L s)

        -- on the queue the cells of earlier regions come first
        older : (k : ℕ) → k < t → get_or L (get_or q' k 0) CN < s
        older k h = omega (arith, ap (λ (c : ℕ). get_or L c CN) (w.front k h), b.earlier k h)

        newer : (k : ℕ) → k < t' → t ≤ k → get_or L (get_or q' k 0) CN ≡ s
        newer k h f = label (get_or q' k 0) (w.theirs k h f)

        found_earlier : (k : ℕ) → k < t' → get_or L (get_or q' k 0) CN < s + 1
        found_earlier k h = ⊎_elim (λ i. omega (arith, older k i)) (λ i. omega (arith, newer k h i)) (below? k t)

        apart : (i j : ℕ) → i < t → j < t' → t ≤ j → get_or q' i 0 ≡ get_or q' j 0 → ⊥
        apart i j h k f z = omega (arith, older i h, newer j k f, ap (λ (c : ℕ). get_or L c CN) z)

        found_once : (i j : ℕ) → i < t' → j < t' → get_or q' i 0 ≡ get_or q' j 0 → i ≡ j
        found_once i j hi hj z =
            ⊎_elim
            (λ li. ⊎_elim (λ lj. b.once i j li lj (sym (w.front i li) ∙ z ∙ w.front j lj)) (λ lj. absurd (apart i j li hj lj z)) (below? j t))
            (λ li. ⊎_elim (λ lj. absurd (apart j i lj hi li (sym z))) (λ lj. w.once i j hi hj li lj z) (below? j t)) (below? i t)

        found_some : t < t'
        found_some = let o = w.queued s (here k) in let x = o.1 in let y = o.2 in omega arith

        pub found_crowd : having seen' es SEEN ≡ stood + creatures_in L es s
        found_crowd =
            count_plus (λ m. eqb (mark_of seen' m) SEEN) (λ m. eqb (mark_of seen m) SEEN) (λ m. eqb (region_of L m) s)
            (λ m. ap (λ (x : ℕ). bit (eqb x SEEN)) (found_marks (place_of m)) ∙ ap bit (bit-one (ltb (region_of L m) (s + 1))) ∙ bit-step (region_of L m) s
            ∙ ap (λ (x : Bool). bit x + bit (eqb (region_of L m) s)) (sym (ap (λ (x : ℕ). eqb x SEEN) (b.marks (place_of m)) ∙ bit-one (ltb (region_of L m) s))))
            es
            ∙ ap (λ (x : ℕ). x + creatures_in L es s) (sym b.crowd)

        module _ (stand : ℕ) (st : stand ≡ having seen' es SEEN) where
          pub found_less : stood ≤ stand
          found_less = omega (arith, found_crowd)

          crowd_is : stand - stood ≡ creatures_in L es s
          crowd_is = omega (arith, found_crowd)

          size_is : t' - t ≡ cells_in L s
          size_is = omega (arith, found_size)

          -- the new region leads
          now_best : best L es s (rest limit L (n + 1) (s + 1)) ≡ kept limit L es
              → Best limit L es q' t' (record { part = record { from = t; to = t' }; crowd = stand - stood }) (n + 1) (s + 1)
          now_best z =
              record {
                w = s;
                past = omega arith;
                some = found_some;
                room = omega arith;
                theirs = λ i h j. label (get_or q' i 0) (w.theirs i j h);
                queued = λ c h. w.queued c (theirs c h);
                size = found_size;
                crowd = crowd_is;
                left = z;
              }

          won : more (stand - stood) (t' - t) l.crowd (l.part.to - l.part.from) ≡ true → best L es s (rest limit L (n + 1) (s + 1)) ≡ kept limit L es
          won z =
              ⊎_elim (λ x. ap (kept_of L es) (sym next) ∙ x.left)
              (λ x. sym (best_won L es x.w s (rest limit L (n + 1) (s + 1)) (sym (compared x) ∙ z)) ∙ ap (best L es x.w) (sym next) ∙ x.left) b.lead
            where
              compared : (x : Best limit L es q t l n s) → more (stand - stood) (t' - t) l.crowd (l.part.to - l.part.from) ≡ beats L es s x.w
              compared x = let y : l.part.to - l.part.from ≡ cells_in L x.w = omega (arith, x.size) in rw (crowd_is, size_is, x.crowd, y)

          lost : more (stand - stood) (t' - t) l.crowd (l.part.to - l.part.from) ≡ false → Best limit L es q' t' l (n + 1) (s + 1)
          lost z = ⊎_elim first later b.lead
            where
              first : None limit L es l n s → Best limit L es q' t' l (n + 1) (s + 1)
              first x =
                  let y : l.part.to - l.part.from ≡ 0 = omega (arith, x.empty) in
                  let p : 0 < t' - t = omega (arith, found_some) in
                  let m : more (stand - stood) (t' - t) l.crowd (l.part.to - l.part.from) ≡ true = rw (x.nobody, y) (more_than_none (stand - stood) (t' - t) p) in
                  absurd (false≢true (sym z ∙ m))

              later : Best limit L es q t l n s → Best limit L es q' t' l (n + 1) (s + 1)
              later x =
                  let y : l.part.to - l.part.from ≡ cells_in L x.w = omega (arith, x.size) in
                  let m : more (stand - stood) (t' - t) l.crowd (l.part.to - l.part.from) ≡ beats L es s x.w = rw (crowd_is, size_is, x.crowd, y) in
                  record {
                    w = x.w;
                    past = omega (arith, x.past);
                    some = x.some;
                    room = omega (arith, x.room, found_some);
                    theirs = λ i h j. ap (λ (c : ℕ). get_or L c CN) (w.front i (omega (arith, x.room))) ∙ x.theirs i h j;
                    queued = λ c h. let o = x.queued c h in let i = o.2 in (o.0, o.1, o.2, w.front o.0 (omega (arith, x.room)) ∙ o.3);
                    size = x.size;
                    crowd = x.crowd;
                    left = sym (best-lost L es x.w s (rest limit L (n + 1) (s + 1)) (sym m ∙ z)) ∙ ap (best L es x.w) (sym next) ∙ x.left;
                  }

          pub between_found : (l' : Lead) → l' ≡ leader l (record { from = t; to = t' }) (stand - stood) → Between g L limit es seen' q' l' (n + 1) t' stand (s + 1)
          between_found l' y =
              record {
                cells = b.cells;
                len = w.len;
                long = w.long;
                some = b.some;
                order = omega arith;
                few = omega (arith, below_limit);
                marks = found_marks;
                full = omega (arith, w.left_over, b.full);
                earlier = found_earlier;
                once = found_once;
                crowd = st;
                counts = λ c. b.counts c ∙ ap (λ (r : List ℕ). ltb (get_or L c CN) s || any (eqb (get_or L c CN)) r) next
                    ∙ or_step (get_or L c CN) s (any (eqb (get_or L c CN)) (rest limit L (n + 1) (s + 1)));
                lead = inr (subst (λ (x : Lead). Best limit L es q' t' x (n + 1) (s + 1)) (sym y)
                    (cond_both (λ x. Best limit L es q' t' x (n + 1) (s + 1)) (more (stand - stood) (t' - t) l.crowd (l.part.to - l.part.from))
                    (record { part = record { from = t; to = t' }; crowd = stand - stood }) l (λ z. now_best (won z)) lost));
              }

  -- ---- the end

  module _ (none : rest limit L n s ≡ []) (all : n ≡ 0 → s ≡ CN) where
    is-counted : (c : ℕ) → ltb (get_or L c CN) s ≡ any (eqb (get_or L c CN)) (counted limit L)
    is-counted c = sym (b.counts c ∙ ap (λ (r : List ℕ). ltb (get_or L c CN) s || any (eqb (get_or L c CN)) r) none ∙ or-false (ltb (get_or L c CN) s))

    among : (x : Best limit L es q t l n s) → any (eqb x.w) (counted limit L) ≡ true
    among x =
        let e = x.theirs l.part.from (omega arith) x.some in
        let c = get_or q l.part.from 0 in
        subst (λ (v : ℕ). any (eqb v) (counted limit L) ≡ true) e (sym (is-counted c) ∙ lt-ltb (get_or L c CN) s (omega (arith, x.past)))

    chosen : ChosenBy L limit es seen q l.part.from l.part.to t
    chosen =
        record {
          len = b.len;
          long = b.long;
          room = ⊎_elim (λ x. omega (arith, x.start)) (λ x. omega (arith, x.room, b.full)) b.lead;
          marks = λ c. b.marks c ∙ ap bit (is-counted c);
          cells = λ k h. sym (is-counted (get_or q k 0)) ∙ lt-ltb (get_or L (get_or q k 0) CN) s (b.earlier k h);
          once = b.once;
          account =
              (let f : ℕ → Bool = λ x. ltb x s in omega (arith, b.full, free_count L seen s (b.len ∙ sym R.len) b.marks, count-not f L, R.len))
              ∙ count_same (λ x. ltb x s) (λ x. any (eqb x) (counted limit L)) L L CN CN refl (λ c h. is-counted c);
          best = ⊎_elim
              (λ x. inl (record {
                none = x.empty;
                all = λ c. omega (arith, x.clear c, all x.zero);
                off = λ c. sym (is-counted c)
                    ∙ le-ltb (get_or L c CN) s (x.clear c);
                keep = sym x.left ∙ ap (kept_of L es) none;
              }))
              (λ x. let y : x.w ≡ kept limit L es = sym (best_last L es x.w) ∙ ap (best L es x.w) (sym none) ∙ x.left in
              inr (record {
                some = x.some;
                inn = omega (arith, y, x.past, b.order);
                among = subst (λ (v : ℕ). any (eqb v) (counted limit L) ≡ true) y (among x);
                theirs = λ k h j. x.theirs k h j ∙ y;
                queued = λ c h. x.queued c (h ∙ sym y);
                size = x.size ∙ ap (λ (v : ℕ). l.part.from + cells_in L v) y;
              }))
              b.lead;
        }

  -- the limit is reached
  pub chosen_full : n ≡ limit → ChosenBy L limit es seen q l.part.from l.part.to t
  chosen_full e = chosen (rest_full limit L n s e) (λ z. absurd (omega (arith, b.some)))

  -- the whole grid is passed
  pub chosen_end : CN ≤ s → ChosenBy L limit es seen q l.part.from l.part.to t
  chosen_end h = let e : s ≡ CN = omega (arith, b.order) in chosen (rest_end limit L n s (R.len ∙ sym e)) (λ z. e)

-- where nothing is marked yet
pub between_start : {g L : List ℕ} (R : Right g L) {limit : ℕ} (es : List Mover) {seen q : List ℕ} → length g ≡ CN → seen ≡ replicate CN 0 → length q ≡ CN → 0 < limit
    → Between g L limit es seen q (record { part = record { from = 0; to = 0 }; crowd = 0 }) 0 0 0 0
between_start {g} {L} R {limit} es {seen} {q} lg z lq p =
    record {
      cells = lg;
      len = long;
      long = lq;
      some = p;
      order = omega arith;
      few = omega arith;
      marks = marks;
      full = omega (arith, free_count L seen 0 (long ∙ sym R.len) marks, every L, R.len);
      earlier = λ k h. absurd (omega arith);
      once = λ i j h. absurd (omega arith);
      crowd = sym (nobody es);
      counts = λ c. ap (λ (r : List ℕ). any (eqb (get_or L c CN)) r) (sym whole)
          ∙ ap (λ (x : Bool). x || any (eqb (get_or L c CN)) (rest limit L 0 0)) (sym (le-ltb (get_or L c CN) 0 (omega arith)));
      lead = inl (record { zero = refl; empty = refl; start = refl; nobody = refl; clear = λ c. omega arith; left = ap (kept_of L es) whole });
    }
  where
    whole : rest limit L 0 0 ≡ counted limit L
    whole = let e : limit - 0 ≡ limit = omega arith in ap (λ (k : ℕ). take k (roots_from 0 L)) e

    long : length seen ≡ CN
    long = ap length z ∙ length-replicate {A = ℕ} CN 0

    blank : (c : ℕ) → get_or seen c 0 ≡ 0
    blank c = ap (λ (x : List ℕ). get_or x c 0) z ∙ get_or_replicate_same_lem CN c 0

    marks : (c : ℕ) → get_or seen c 0 ≡ bit (ltb (get_or L c CN) 0)
    marks c = blank c ∙ ap bit (sym (le-ltb (get_or L c CN) 0 (omega arith)))

    every : (m : List ℕ) → count (λ x. not (ltb x 0)) m ≡ length m
    every [] = refl
    every (x ∷ xs) = rw (le-ltb x 0 (omega arith)) (ap suc (every xs))

    nobody : (ms : List Mover) → having seen ms SEEN ≡ 0
    nobody [] = refl
    nobody (m ∷ ms) = rw (blank (place_of m)) (nobody ms)
