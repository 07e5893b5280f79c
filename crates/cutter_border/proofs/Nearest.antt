-- The walk to the border ends at the nearest cell beside black, and takes the cells before it: it reaches cells in the order of their least
-- spellings. Assumes nothing.
use mathlib.Core.Bool.{true, false, true≢false}
use mathlib.Core.List.{List, [], ◌∷◌, ◌++◌}
use mathlib.Core.Logic.{◌⊎◌, inl, inr, ⊎_elim}
use mathlib.Core.Path.{◌≡◌, refl, sym, ap, subst, ◌∙◌}
use Prim.Native.Nat.{ℕ, zero, suc, ◌+◌, ◌*◌, ◌≤◌, ◌<◌}
use native.Mathlib.Nat.{not-suc-le-zero}
use native.Mathlib.Numerals.{add-one}
use native.Mathlib.Omega.{arith}
use borrow.Author.Count.{below_none, below_more}
use borrow.Author.Tests.{eqb-true, eq-eqb}
use lib.Dec.{eqb}
use lib.ListN.{length, get_or, set, take, replicate, length-append, length-set, length-replicate, get_or-append}
use lib.Seq.{get_or_at, get_or-take, length-take-le, take-suc}
use Rattle.laws.specs.Lists.{tally}
use Rattle.laws.proofs.Choice.{bool_cases, below?, or_cases}
use Rattle.laws.proofs.Counts.{tally_le, tally_lose}
use Rattle.laws.proofs.Lists.{any_at, get_or_replicate_same_lem}
use Rattle.cutter_ground.specs.Cells.{CN, left_of, right_of, up_of, down_of, on_border}
use Rattle.cutter_ground.specs.CodeVisit.{SEEN}
use Rattle.cutter_border.specs.declared.Walked.{Walked}
use Rattle.cutter_border.specs.Walks.{claimed_cell, Beside, Way, Left, Right, Up, Down, order, onward, Spelling, still, more, steps, Walk, here, step}
use Rattle.cutter_border.specs.Nearest.{First, Unreached, Nearest, goes, stays}
use Rattle.cutter_border.specs.Taken.{among, distinct, NoLater, Takes, none, chosen, reached}
use Rattle.cutter_border.specs.CodeBorder.{reach, reach_around, walk, to_border}
use Rattle.cutter_border.proofs.Spellings.{each, value, shorter_less, earlier_less, value_same, no_later, later_value, end_of, walk_end, nearest_unique, nearest-here}
use Rattle.cutter_border.proofs.Reaching.{claimed_in_lem, marked, marked-none, none-marked, mark_more, reach-new, reach-old, reach-off}
use Rattle.cutter_border.proofs.Walking as walking
use Rattle.cutter_border.proofs.Taken.{distinct_more, distinct-take, walk-cost}

-- the walk's own test says the same
module _ (g : List ℕ) (c : ℕ) where
  border_beside : on_border g c ≡ true → Beside g c
  border_beside e = e

  inland_not : on_border g c ≡ false → Beside g c → ⊥
  inland_not e b = true≢false (sym b ∙ e)

-- what a list holds with one entry more
module _ (l : List ℕ) (x d : ℕ) where
  old_at : (k : ℕ) → k < length l → get_or (l ++ x ∷ []) k d ≡ get_or l k d
  old_at k h = get_or-append l (x ∷ []) d k h

  new_at : (k : ℕ) → length l ≡ k → get_or (l ++ x ∷ []) k d ≡ x
  new_at k h = get_or_at l x [] d k h

one_more : (l : List ℕ) (x : ℕ) → length (l ++ x ∷ []) ≡ length l + 1
one_more l x = length-append l (x ∷ [])

-- a cell among those reached has a place there
place_of : (c : ℕ) (cells : List ℕ) → among c cells ≡ true → (m : ℕ) × (m < length cells) × (get_or cells m CN ≡ c)
place_of c [] e = absurd (true≢false (sym e))
place_of c (x ∷ cells) e =
    ⊎_elim (λ h. (0, omega arith, sym (eqb-true c x h)))
    (λ h. let r = place_of c cells h in (suc r.0, omega (arith, r.1), r.2))
    (or_cases (eqb c x) (among c cells) e)

-- c is one of the cells, with a value of at most v
abbrev Has : (cells vs : List ℕ) (c v : ℕ) → Type 0
Has cells vs c v = (m : ℕ) × (m < length cells) × (get_or cells m CN ≡ c) × (get_or vs m 0 ≤ v)

-- both lists go on behind
record Longer (cells vs cells' vs' : List ℕ) : Type 0 where
  many : length cells ≤ length cells'
  front : (k : ℕ) → k < length cells → get_or cells' k CN ≡ get_or cells k CN
  values : (k : ℕ) → k < length cells → get_or vs' k 0 ≡ get_or vs k 0

longer_same : (cells vs : List ℕ) → Longer cells vs cells vs
longer_same cells vs = record { many = omega arith; front = λ k h. refl; values = λ k h. refl }

longer_trans : {c₁ v₁ c₂ v₂ c₃ v₃ : List ℕ} → Longer c₁ v₁ c₂ v₂ → Longer c₂ v₂ c₃ v₃ → Longer c₁ v₁ c₃ v₃
longer_trans e f =
    record {
      many = omega (arith, e.many, f.many);
      front = λ k h. f.front k (omega (arith, e.many)) ∙ e.front k h;
      values = λ k h. f.values k (omega (arith, e.many)) ∙ e.values k h;
    }

has_longer : {c₁ v₁ c₂ v₂ : List ℕ} → Longer c₁ v₁ c₂ v₂ → (c v : ℕ) → Has c₁ v₁ c v → Has c₂ v₂ c v
has_longer e c v h = (h.0, omega (arith, h.1, e.many), e.front h.0 h.1 ∙ h.2, omega (arith, e.values h.0 h.1, h.3))

module _ (g : List ℕ) (a : ℕ) where
  -- v is the value of a walk to c
  abbrev Spelt : ℕ → ℕ → Type 0
  Spelt c v = (p : Spelling) × Walk g a p c × (value p ≡ v)

  -- the cells reached, with values vs of walks to them: they rise, and top is no less; seen has a mark for each
  record Reach (cells vs seen : List ℕ) (top : ℕ) : Type 0 where
    same : length vs ≡ length cells
    spelt : (k : ℕ) → k < length cells → Spelt (get_or cells k CN) (get_or vs k 0)
    rising : (k : ℕ) → k < length cells → (j : ℕ) → j < k → get_or vs j 0 < get_or vs k 0
    under : (k : ℕ) → k < length cells → get_or vs k 0 ≤ top
    long : length seen ≡ CN
    room : length cells + tally 0 seen ≤ CN
    marks : (c : ℕ) → among c cells ≡ marked seen c
    once : distinct cells ≡ true

  -- a higher top
  raised : {cells vs seen : List ℕ} {top top' : ℕ} → Reach cells vs seen top → top ≤ top' → Reach cells vs seen top'
  raised r h =
      record {
        same = r.same;
        spelt = r.spelt;
        rising = r.rising;
        under = λ k l. omega (arith, r.under k l);
        long = r.long;
        room = r.room;
        marks = r.marks;
        once = r.once;
      }

  -- the lists grown to cells' and vs', of which P holds
  record Grown (cells vs : List ℕ) (top : ℕ) (cells' : List ℕ) (P : List ℕ → Type 0) : Type 0 where
    vs' : List ℕ
    seen' : List ℕ
    reached : Reach cells' vs' seen' top
    longer : Longer cells vs cells' vs'
    had : P vs'

  -- the cell x is looked at, by a walk of the value v: it is there, if it is claimed
  abbrev Looked : (cells vs : List ℕ) (x v : ℕ) (cells' : List ℕ) → Type 0
  Looked cells vs x v cells' = Grown cells vs v cells' (λ vs'. claimed_cell g x ≡ true → Has cells' vs' x v)

  module _ {cells vs seen : List ℕ} {top : ℕ} (r : Reach cells vs seen top) (x v : ℕ) (t : top < v) where
    abbrev n : ℕ
    n = length cells

    old-cell : (k : ℕ) → k < n → get_or (cells ++ x ∷ []) k CN ≡ get_or cells k CN
    old-cell k h = old_at cells x CN k h

    old_value : (k : ℕ) → k < n → get_or (vs ++ v ∷ []) k 0 ≡ get_or vs k 0
    old_value k h = old_at vs v 0 k (omega (arith, r.same))

    new-cell : get_or (cells ++ x ∷ []) n CN ≡ x
    new-cell = new_at cells x CN n refl

    new_value : get_or (vs ++ v ∷ []) n 0 ≡ v
    new_value = new_at vs v 0 n r.same

    reach-more : Spelt x v → x < CN → among x cells ≡ false → Reach (cells ++ x ∷ []) (vs ++ v ∷ []) (set seen x SEEN) v
    reach-more w i f =
        let many = one_more cells x in
        let blank : get_or seen x 0 ≡ 0 = none-marked seen x (sym (r.marks x) ∙ f) in
        record {
          same = one_more vs v ∙ omega (arith, r.same, many);
          spelt = rw many (below_more (λ k. Spelt (get_or (cells ++ x ∷ []) k CN) (get_or (vs ++ v ∷ []) k 0)) n
              (λ k h. rw (old-cell k h, old_value k h) (r.spelt k h))
              (rw (new-cell, new_value) w));
          rising = rw many (below_more (λ k. (j : ℕ) → j < k → get_or (vs ++ v ∷ []) j 0 < get_or (vs ++ v ∷ []) k 0) n
              (λ k h j l. omega (arith, old_value j (omega arith), old_value k h, r.rising k h j l))
              (λ j l. omega (arith, old_value j l, new_value, r.under j l)));
          under = rw many (below_more (λ k. get_or (vs ++ v ∷ []) k 0 ≤ v) n (λ k h. omega (arith, old_value k h, r.under k h)) (omega (arith, new_value)));
          long = length-set seen x SEEN ∙ r.long;
          room = omega (arith, many, r.room, tally_lose seen x 0 SEEN (omega (arith, r.long)) blank (λ e. omega arith));
          marks = mark_more seen cells x (omega (arith, r.long)) r.marks;
          once = distinct_more cells x r.once f;
        }

    added : Spelt x v → claimed_cell g x ≡ true → among x cells ≡ false → Looked cells vs x v (cells ++ x ∷ [])
    added w c f =
        record {
          vs' = vs ++ v ∷ [];
          seen' = set seen x SEEN;
          reached = reach-more w (claimed_in_lem g x c) f;
          longer = record { many = omega (arith, one_more cells x); front = old-cell; values = old_value };
          had = λ _. (n, omega (arith, one_more cells x), new-cell, omega (arith, new_value));
        }

    kept : (claimed_cell g x ≡ true → among x cells ≡ true) → Looked cells vs x v cells
    kept f =
        record {
          vs' = vs;
          seen' = seen;
          reached = raised r (omega arith);
          longer = longer_same cells vs;
          had = λ c. let m = place_of x cells (f c) in (m.0, m.1, m.2, omega (arith, r.under m.0 m.1));
        }

    looked : (claimed_cell g x ≡ true → Spelt x v) → Looked cells vs x v (reach g cells x)
    looked w =
        ⊎_elim
        (λ c. ⊎_elim (λ f. subst (Looked cells vs x v) (sym (reach-old g cells x f)) (kept (λ _. f)))
        (λ f. subst (Looked cells vs x v) (sym (reach-new g cells x c f)) (added (w c) c f))
        (bool_cases (among x cells)))
        (λ c. subst (Looked cells vs x v) (sym (reach-off g cells x c)) (kept (λ d. absurd (true≢false (sym d ∙ c)))))
        (bool_cases (claimed_cell g x))

  -- the claimed neighbours of the cell b are there, by a walk to b of the value z and a step more
  abbrev Round : (cells vs : List ℕ) (b z : ℕ) → Type 0
  Round cells vs b z = (w : Way) → claimed_cell g (onward w b) ≡ true → Has cells vs (onward w b) (4 * z + order w)

  abbrev Turned : (cells vs : List ℕ) (b z : ℕ) (cells' : List ℕ) → Type 0
  Turned cells vs b z cells' = Grown cells vs (4 * z + 4) cells' (λ vs'. Round cells' vs' b z)

  turned : {cells vs seen : List ℕ} {b z : ℕ} → Reach cells vs seen (4 * z) → Spelt b z → Turned cells vs b z (reach_around g cells b)
  unfolding reach_around
  turned {cells} {vs} {seen} {b} {z} r s =
      let onto : (w : Way) → claimed_cell g (onward w b) ≡ true → Spelt (onward w b) (4 * z + order w) = λ w c. (more s.0 w, step w s.1 c, omega (arith, s.2)) in
      let one = looked r (left_of b) (4 * z + 1) (omega arith) (onto Left) in
      let two = looked one.reached (right_of b) (4 * z + 2) (omega arith) (onto Right) in
      let three = looked two.reached (up_of b) (4 * z + 3) (omega arith) (onto Up) in
      let four = looked three.reached (down_of b) (4 * z + 4) (omega arith) (onto Down) in
      let l₃ = four.longer in
      let l₂ = longer_trans three.longer l₃ in
      let l₁ = longer_trans two.longer l₂ in
      record {
        vs' = four.vs';
        seen' = four.seen';
        reached = four.reached;
        longer = longer_trans one.longer l₁;
        had = each (λ (w : Way). claimed_cell g (onward w b) ≡ true → Has (reach_around g cells b) four.vs' (onward w b) (4 * z + order w))
            (λ c. has_longer l₁ _ _ (one.had c)) (λ c. has_longer l₂ _ _ (two.had c)) (λ c. has_longer l₃ _ _ (three.had c)) four.had;
      }

  -- before the i-th cell is taken: none before it is beside black, and their neighbours are there
  record Taking (cells : List ℕ) (i : ℕ) : Type 0 where
    vs : List ℕ
    seen : List ℕ
    top : ℕ
    reached : Reach cells vs seen top
    next : i < length cells → top ≤ 4 * get_or vs i 0
    start : Has cells vs a 0
    before : i ≤ length cells
    inland : (k : ℕ) → k < i → on_border g (get_or cells k CN) ≡ false
    done : (k : ℕ) → k < i → Round cells vs (get_or cells k CN) (get_or vs k 0)

  module _ {cells : List ℕ} {i : ℕ} (t : Taking cells i) where
    -- a cell that is still to be taken, of a value of at most v
    abbrev Waits : ℕ → Type 0
    Waits v = (k : ℕ) × (i ≤ k) × (k < length cells) × (get_or t.vs k 0 ≤ v)

    -- the end of a walk is there, or a lesser cell waits
    followed : {q : Spelling} {c : ℕ} → Walk g a q c → Has cells t.vs c (value q) ⊎ Waits (value q)
    followed here = inl t.start
    followed (step {p = p} {b = b} w r k) =
        ⊎_elim
        (λ (h : Has cells t.vs b (value p)). ⊎_elim
        (λ l. let d = t.done h.0 l w (subst (λ (c : ℕ). claimed_cell g (onward w c) ≡ true) (sym h.2) k) in
        inl (d.0, d.1, d.2 ∙ ap (onward w) h.2, omega (arith, d.3, h.3)))
        (λ l. inr (h.0, l, h.1, omega (arith, h.3)))
        (below? h.0 i))
        (λ (h : Waits (value p)). inr (h.0, h.1, h.2, omega (arith, h.3)))
        (followed r)

    -- where the end is beside black, a cell waits
    waits : {q : Spelling} {c : ℕ} → Walk g a q c → Beside g c → Waits (value q)
    waits {q} {c} r e =
        ⊎_elim
        (λ (h : Has cells t.vs c (value q)). ⊎_elim
        (λ l. absurd (inland_not g c (ap (on_border g) (sym h.2) ∙ t.inland h.0 l) e))
        (λ l. (h.0, l, h.1, h.3))
        (below? h.0 i))
        (λ h. h)
        (followed r)

    unreached : length cells ≤ i → Unreached g a
    unreached l q c r e = let h = waits r e in omega (arith, h.1, h.2)

    -- of the cells that wait the i-th has the least value
    least : (k : ℕ) → i ≤ k → k < length cells → get_or t.vs i 0 ≤ get_or t.vs k 0
    least k l h =
        ⊎_elim (λ b. omega (arith, t.reached.rising k h i b))
        (λ b. let e : i ≡ k = omega arith in subst (λ (m : ℕ). get_or t.vs i 0 ≤ get_or t.vs m 0) e (omega arith))
        (below? i k)

    -- the i-th cell is beside black: it is the one chosen, and the cells up to it are those taken
    module _ (h : i < length cells) (e : on_border g (get_or cells i CN) ≡ true) where
      abbrev own : Spelling
      own = (t.reached.spelt i h).0

      own_value : value own ≡ get_or t.vs i 0
      own_value = (t.reached.spelt i h).2

      found : First g a own (get_or cells i CN)
      found =
          let w = t.reached.spelt i h in
          let no_less : (q : Spelling) (c : ℕ) → Walk g a q c → Beside g c → value own ≤ value q = λ q c r b.
          let x = waits r b in omega (arith, own_value, x.3, least x.0 x.1 x.2) in
          record {
            walk = w.1;
            beside = border_beside g (get_or cells i CN) e;
            shortest = λ q c r b. ⊎_elim (λ l. absurd (omega (arith, shorter_less q own l, no_less q c r b))) (λ l. l) (below? (steps q) (steps own));
            earliest = λ q c r b x. omega (arith, earlier_less x, no_less q c r b);
          }

      abbrev front : List ℕ
      front = take (i + 1) cells

      front_long : length front ≡ i + 1
      front_long = length-take-le (i + 1) cells (omega arith)

      front_at : (m : ℕ) → m ≤ i → get_or front m CN ≡ get_or cells m CN
      front_at m l = get_or-take (i + 1) cells m CN (omega arith)

      in_front : (m c : ℕ) → m ≤ i → get_or cells m CN ≡ c → among c front ≡ true
      in_front m c l z = any_at (eqb c) front m CN (omega (arith, front_long)) (eq-eqb c (get_or front m CN) (sym (front_at m l ∙ z)))

      -- a walk no later than the chosen one ends in a cell taken
      front-all : (c : ℕ) (q : Spelling) → Walk g a q c → value q ≤ value own → among c front ≡ true
      front-all c q r v =
          ⊎_elim
          (λ (x : Has cells t.vs c (value q)).
          ⊎_elim (λ l. absurd (omega (arith, own_value, x.3, t.reached.rising x.0 x.1 i l))) (λ l. in_front x.0 c l x.2) (below? i x.0))
          (λ (x : Waits (value q)).
          let same : q ≡ own = value_same q own (omega (arith, own_value, x.3, least x.0 x.1 x.2)) in
          in_front i c (omega arith) (walk_end found.walk ∙ ap (end_of a) (sym same) ∙ sym (walk_end r)))
          (followed r)

      front-theirs : (c : ℕ) → among c front ≡ true → (q : Spelling) × Walk g a q c × NoLater q own
      front-theirs c f =
          let x = place_of c front f in
          let m = x.0 in
          let l : m ≤ i = omega (arith, x.1, front_long) in
          let w = t.reached.spelt m (omega arith) in
          let v : value w.0 ≤ value own = ⊎_elim (λ b. omega (arith, w.2, own_value, t.reached.rising i h m b))
          (λ b. let z : m ≡ i = omega arith in omega (arith, w.2, own_value, ap (λ (k : ℕ). get_or t.vs k 0) z)) (below? m i) in
          (w.0, subst (Walk g a w.0) (sym (front_at m l) ∙ x.2) w.1, no_later w.0 own v)

      front_taken : (Beside g a → ⊥) → Takes g a front
      front_taken n =
          chosen own (get_or cells i CN) (take i cells) n found (ap (λ (k : ℕ). take k cells) (add-one i) ∙ take-suc cells i CN h)
          (record { theirs = front-theirs; all = λ c x. front-all c x.0 x.1 (later_value x.0 own x.2); once = distinct-take (i + 1) cells t.reached.once })

    -- no cell waits: all that are reached are taken
    all_taken : length cells ≤ i → Takes g a cells
    all_taken l =
        reached (unreached l)
        (record {
          theirs = λ c f. let x = place_of c cells f in let w = t.reached.spelt x.0 x.1 in (w.0, subst (Walk g a w.0) x.2 w.1);
          all = λ c x. ⊎_elim (λ (y : Has cells t.vs c (value x.0)). any_at (eqb c) cells y.0 CN y.1 (eq-eqb c (get_or cells y.0 CN) (sym y.2)))
              (λ (y : Waits (value x.0)). absurd (omega (arith, y.1, y.2))) (followed x.1);
          once = t.reached.once;
        })

    turn : i < length cells → on_border g (get_or cells i CN) ≡ false → Taking (reach_around g cells (get_or cells i CN)) (i + 1)
    turn h e =
        let z = get_or t.vs i 0 in
        let cells' = reach_around g cells (get_or cells i CN) in
        let r = t.reached in
        let n = turned (raised r (t.next h)) (r.spelt i h) in
        let x = n.longer in
        record {
          vs = n.vs';
          seen = n.seen';
          top = 4 * z + 4;
          reached = n.reached;
          next = λ l. omega (arith, n.reached.rising (i + 1) l i (omega arith), x.values i h);
          start = has_longer x a 0 t.start;
          before = omega (arith, x.many);
          inland = below_more (λ k. on_border g (get_or cells' k CN) ≡ false) i (λ k l. rw (x.front k (omega (arith, t.before))) (t.inland k l)) (rw (x.front i h) e);
          done = below_more (λ k. Round cells' n.vs' (get_or cells' k CN) (get_or n.vs' k 0)) i
              (λ k l. let u : k < length cells = omega (arith, t.before) in rw (x.front k u, x.values k u) (λ w c. has_longer x _ _ (t.done k l w c)))
              (rw (x.front i h, x.values i h) n.had);
        }

  -- the walk w ends at the nearest cell, and has taken so many
  record Ended (w : Walked) : Type 0 where
    place : Nearest g a w.at
    cells : List ℕ
    taken : (Beside g a → ⊥) → Takes g a cells
    many : length cells ≡ w.taken

  ended_at : {w v : Walked} → w ≡ v → Ended v → Ended w
  ended_at e n = subst Ended (sym e) n

  ended-none : {cells : List ℕ} {i : ℕ} → Taking cells i → length cells ≤ i → Ended (record { at = a; taken = i })
  ended-none {cells} t l = record { place = stays (unreached t l) refl; cells = cells; taken = λ n. all_taken t l; many = omega (arith, t.before) }

  walk_ends : (n : ℕ) (cells : List ℕ) (i : ℕ) → Taking cells i → n + i ≡ CN → Ended (walk n g a cells i)
  walk_ends zero cells i t f =
      let l : length cells ≤ i = omega (arith, t.reached.room) in ended_at (walking.none g a cells i zero l) (ended-none t l)
  walk_ends (suc n) cells i t f =
      ⊎_elim
      (λ h. ⊎_elim
      (λ e. ended_at (walking.ends g a cells i n h e)
      (record { place = goes (own t h e) (found t h e); cells = front t h e; taken = front_taken t h e; many = front_long t h e }))
      (λ e. ended_at (walking.goes g a cells i n h e) (walk_ends n (reach_around g cells (get_or cells i CN)) (i + 1) (turn t h e) (omega arith)))
      (bool_cases (on_border g (get_or cells i CN))))
      (λ l. ended_at (walking.none g a cells i (suc n) l) (ended-none t l))
      (below? i (length cells))

  -- the start, by the empty walk
  starting : a < CN → Taking (a ∷ []) 0
  starting h =
      let cleared : List ℕ = replicate CN 0 in
      let all : length cleared ≡ CN = length-replicate {A = ℕ} CN 0 in
      let one : (P : ℕ → Type 0) → P 0 → (k : ℕ) → k < 1 → P k = λ P p. below_more P 0 (below_none P) p in
      record {
        vs = 0 ∷ [];
        seen = set cleared a SEEN;
        top = 0;
        reached = record {
          same = refl;
          spelt = one (λ k. Spelt (get_or (a ∷ []) k CN) (get_or (0 ∷ []) k 0)) (still, here, refl);
          rising = one (λ k. (j : ℕ) → j < k → get_or (0 ∷ []) j 0 < get_or (0 ∷ []) k 0) (λ j l. absurd (not-suc-le-zero l));
          under = one (λ k. get_or (0 ∷ []) k 0 ≤ 0) (omega arith);
          long = length-set cleared a SEEN ∙ all;
          room = omega (arith, tally_le 0 cleared, all, tally_lose cleared a 0 SEEN (omega (arith, all)) (get_or_replicate_same_lem CN a 0) (λ e. omega arith));
          marks = mark_more cleared [] a (omega (arith, all)) (λ j. sym (marked-none cleared j (get_or_replicate_same_lem CN j 0)));
          once = refl;
        };
        next = λ l. omega arith;
        start = (0, omega arith, refl, omega arith);
        before = omega arith;
        inland = λ k l. absurd (not-suc-le-zero l);
        done = λ k l. absurd (not-suc-le-zero l);
      }

  -- where the player has to go, and what was taken on the way
  record Bordered (w : Walked) : Type 0 where
    place : Nearest g a w.at
    cells : List ℕ
    taken : Takes g a cells
    many : length cells ≡ w.taken

  bordered_at : {w v : Walked} → w ≡ v → Bordered v → Bordered w
  bordered_at e n = subst Bordered (sym e) n

  border_ends : a < CN → Bordered (to_border g a)
  border_ends h =
      ⊎_elim
      (λ e. bordered_at (walking.stays g a e)
      (record { place = nearest-here (border_beside g a e); cells = []; taken = none (border_beside g a e) refl; many = refl }))
      (λ e. let w = walk_ends CN (a ∷ []) 0 (starting h) (omega arith) in
      bordered_at (walking.walks g a e) (record { place = w.place; cells = w.cells; taken = w.taken (inland_not g a e); many = w.many }))
      (bool_cases (on_border g a))

-- The place to which the player at a goes. Its type is all there is to believe: from a cell of the grid there is just one (`nearest-unique`).
pub nearest : (g : List ℕ) (a : ℕ) → (b : ℕ) × (a < CN → Nearest g a b)
nearest g a = ((to_border g a).at, λ h. (border_ends g a h).place)

-- which is where the walk ends
pub walk_at : (g : List ℕ) (a : ℕ) → a < CN → (to_border g a).at ≡ (nearest g a).0
walk_at g a h = nearest_unique (border_ends g a h).place ((nearest g a).1 h)

-- The cells that the walk from a takes. Its type is all there is to believe: from a cell of the grid their number is just one (`walk-cost`).
pub taken : (g : List ℕ) (a : ℕ) → (cells : List ℕ) × (a < CN → Takes g a cells)
taken g a = ⊎_elim (λ h. ((border_ends g a h).cells, λ _. (border_ends g a h).taken)) (λ l. ([], λ h. absurd (omega arith))) (below? a CN)

-- which are as many as the walk counts
pub walk_took : (g : List ℕ) (a : ℕ) → a < CN → (to_border g a).taken ≡ length (taken g a).0
walk_took g a h = sym (border_ends g a h).many ∙ walk-cost.only g a _ _ h (border_ends g a h).taken ((taken g a).1 h)

pub took_few : (g : List ℕ) (a : ℕ) → a < CN → (to_border g a).taken ≤ CN
took_few g a h = omega (arith, walk_took g a h, walk-cost.most g a (taken g a).0 h ((taken g a).1 h))
