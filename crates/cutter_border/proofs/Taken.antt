-- How many cells stand in a list without one twice, and the cells that a walk takes. Assumes nothing.
use mathlib.Core.Bool.{Bool, true, false, not, or-true, true≢false}
use mathlib.Core.List.{List, [], ◌∷◌, ◌++◌}
use mathlib.Core.Path.{◌≡◌, refl, sym, ap, subst, ◌∙◌}
use Prim.Native.Nat.{ℕ, zero, suc, ◌+◌, ◌≤◌, ◌<◌}
use native.Mathlib.Omega.{arith}
use borrow.Author.Tests.{eq-eqb, ne_eqb, not-true}
use lib.Dec.{eqb}
use lib.ListN.{length, set, take, replicate, length-set, length-replicate}
use Rattle.laws.specs.Lists.{tally}
use Rattle.laws.proofs.Choice.{and_left, and_right, or_left, or_right}
use Rattle.laws.proofs.Counts.{tally_le, tally_lose, tally-same}
use Rattle.laws.proofs.Lists.{any_append, get_or_replicate_same_lem}
use Rattle.cutter_ground.specs.Cells.{CN}
use Rattle.cutter_ground.specs.CodeVisit.{SEEN}
use Rattle.cutter_border.specs.Walks.{claimed_cell, Spelling, still, Walk, here, step}
use Rattle.cutter_border.specs.Taken.{among, distinct, Each, NoLater, Takes, none, chosen, reached, WalkCost}
use Rattle.cutter_border.proofs.Reaching.{claimed_in_lem, marked, marked-none, none-marked, mark_first}
use Rattle.cutter_border.proofs.Spellings.{walk-claimed, first_spelt}

-- ---- a list without a cell twice

module _ (c : ℕ) (l : List ℕ) (d : distinct (c ∷ l) ≡ true) where
  head_once : among c l ≡ false
  head_once = not-true (among c l) (and_left (not (among c l)) (distinct l) d)

  tail-once : distinct l ≡ true
  tail-once = and_right (not (among c l)) (distinct l) d

pub distinct_more : (l : List ℕ) (x : ℕ) → distinct l ≡ true → among x l ≡ false → distinct (l ++ x ∷ []) ≡ true
distinct_more [] x d f = refl
distinct_more (c ∷ l) x d f =
    let other : eqb c x ≡ false = ne_eqb c x (λ e. true≢false (sym (eq-eqb x c (sym e)) ∙ or_left (eqb x c) (among x l) f)) in
    rw (any_append (eqb c) l (x ∷ []), head_once c l d, other) (distinct_more l x (tail-once c l d) (or_right (eqb x c) (among x l) f))

among-take : (n : ℕ) (l : List ℕ) (c : ℕ) → among c l ≡ false → among c (take n l) ≡ false
among-take zero l c f = refl
among-take (suc n) [] c f = refl
among-take (suc n) (x ∷ l) c f = rw (or_left (eqb c x) (among c l) f) (among-take n l c (or_right (eqb c x) (among c l) f))

pub distinct-take : (n : ℕ) (l : List ℕ) → distinct l ≡ true → distinct (take n l) ≡ true
distinct-take zero l d = refl
distinct-take (suc n) [] d = refl
distinct-take (suc n) (c ∷ l) d = rw (among-take n l c (head_once c l d)) (distinct-take n l (tail-once c l d))

-- marks for its cells: each took one off the unmarked ones
record Marks (l : List ℕ) : Type 0 where
  seen : List ℕ
  long : length seen ≡ CN
  left : length l + tally 0 seen ≡ tally 0 (replicate CN 0)
  marks : (c : ℕ) → among c l ≡ marked seen c

marks_of_lem : (l : List ℕ) → distinct l ≡ true → ((c : ℕ) → among c l ≡ true → c < CN) → Marks l
marks_of_lem [] d i =
    record { seen = replicate CN 0; long = length-replicate {A = ℕ} CN 0; left = omega arith; marks = λ c. sym (marked-none (replicate CN 0) c (get_or_replicate_same_lem CN c 0)) }
marks_of_lem (x ∷ l) d i =
    let m = marks_of_lem l (tail-once x l d) (λ c h. i c (rw (h, or-true) refl)) in
    let inn : x < length m.seen = omega (arith, m.long, i x (rw (eq-eqb x x refl) refl)) in
    let blank = none-marked m.seen x (sym (m.marks x) ∙ head_once x l d) in
    record {
      seen = set m.seen x SEEN;
      long = length-set m.seen x SEEN ∙ m.long;
      left = omega (arith, m.left, tally_lose m.seen x 0 SEEN inn blank (λ e. omega arith));
      marks = mark_first m.seen l x inn m.marks;
    }

bool_same : (a b : Bool) → (a ≡ true → b ≡ true) → (b ≡ true → a ≡ true) → a ≡ b
bool_same true b f g = sym (f refl)
bool_same false true f g = g refl
bool_same false false f g = refl

-- two such lists of the same cells are as long
same-long : (l k : List ℕ) → Marks l → Marks k → ((c : ℕ) → among c l ≡ among c k) → length l ≡ length k
same-long l k m n e =
    let over : (c : ℕ) → marked m.seen c ≡ marked n.seen c = λ c. sym (m.marks c) ∙ e c ∙ n.marks c in
    let same : tally 0 m.seen ≡ tally 0 n.seen = tally-same 0 0 m.seen n.seen 0 0 (m.long ∙ sym n.long)
    (λ c. (λ z. none-marked n.seen c (sym (over c) ∙ marked-none m.seen c z), λ z. none-marked m.seen c (over c ∙ marked-none n.seen c z))) in
    omega (arith, m.left, n.left)

-- ---- the cells that a walk takes

module _ {P : ℕ → Type 0} {l : List ℕ} (e : Each P l) (i : (c : ℕ) → P c → c < CN) where
  each-marks : Marks l
  each-marks = marks_of_lem l e.once (λ c h. i c (e.theirs c h))

  each-most : length l ≤ CN
  each-most = omega (arith, each-marks.left, tally_le 0 (replicate CN 0), length-replicate {A = ℕ} CN 0)

  each-only : {k : List ℕ} → Each P k → length l ≡ length k
  each-only {k} f =
      same-long l k each-marks (marks_of_lem k f.once (λ c h. i c (f.theirs c h)))
      (λ c. bool_same (among c l) (among c k) (λ h. f.all c (e.theirs c h)) (λ h. e.all c (f.theirs c h)))

module _ {g : List ℕ} {a : ℕ} where
  -- a walk from a cell of the grid stays on it
  walk_in : a < CN → {q : Spelling} {c : ℕ} → Walk g a q c → c < CN
  walk_in h here = h
  walk_in h (step w r k) = claimed_in_lem g _ k

  takes-claimed : {cells : List ℕ} → claimed_cell g a ≡ true → Takes g a cells → (c : ℕ) → among c cells ≡ true → claimed_cell g c ≡ true
  takes-claimed s (none b e) c h = absurd (true≢false (sym h ∙ ap (among c) e))
  takes-claimed s (chosen p b others n f e t) c h = walk-claimed s (t.theirs c h).1
  takes-claimed s (reached u t) c h = walk-claimed s (t.theirs c h).1

  takes-most : {cells : List ℕ} → a < CN → Takes g a cells → length cells ≤ CN
  takes-most i (none b e) = omega (arith, ap length e)
  takes-most i (chosen p b others n f e t) = each-most t (λ c h. walk_in i h.1)
  takes-most i (reached u t) = each-most t (λ c h. walk_in i h.1)

  takes-only : {cells cells' : List ℕ} → a < CN → Takes g a cells → Takes g a cells' → length cells ≡ length cells'
  takes-only i (none b e) (none b' e') = ap length e ∙ sym (ap length e')
  takes-only i (none b e) (chosen p' b' others' n' f' e' t') = absurd (n' b)
  takes-only i (none b e) (reached u' t') = absurd (u' still a here b)
  takes-only i (chosen p b others n f e t) (none b' e') = absurd (n b')
  takes-only {cells} {cells'} i (chosen p b others n f e t) (chosen p' b' others' n' f' e' t') =
      each-only t (λ c h. walk_in i h.1) (subst (λ (x : Spelling). Each (λ c. (q : Spelling) × Walk g a q c × NoLater q x) cells') (sym (first_spelt f f')) t')
  takes-only i (chosen p b others n f e t) (reached u' t') = absurd (u' p b f.walk f.beside)
  takes-only i (reached u t) (none b' e') = absurd (u still a here b')
  takes-only i (reached u t) (chosen p' b' others' n' f' e' t') = absurd (u p' b' f'.walk f'.beside)
  takes-only i (reached u t) (reached u' t') = each-only t (λ c h. walk_in i h.1) t'

pub walk-cost : WalkCost
walk-cost =
    record {
      claimed = λ g a cells s t. takes-claimed s t;
      most = λ g a cells i t. takes-most i t;
      only = λ g a cells cells' i t t'. takes-only i t t';
    }
