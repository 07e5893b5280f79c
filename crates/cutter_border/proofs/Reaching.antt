-- A visit of the code is a cell reached: the queue's front is the list of cells reached, and the marks tell which are in it. Assumes nothing.
use mathlib.Core.Bool.{Bool, true, false, not, and-false, ◌||◌}
use mathlib.Core.List.{List, [], ◌∷◌, ◌++◌}
use mathlib.Core.Logic.{inl, inr, ⊎_elim}
use mathlib.Core.Path.{◌≡◌, refl, sym, ap, ap₂, subst, ◌∙◌}
use Prim.Native.Nat.{ℕ, ◌<◌}
use native.Mathlib.Numerals.{add-one}
use native.Mathlib.Omega.{arith}
use lib.Dec.{eqb, ltb}
use lib.ListN.{length, get_or, set, take}
use lib.Seq.{get_or-set_same, get_or-set_other, take-suc-set}
use borrow.Author.Tests.{not-false, ltb-true, lt-ltb, eqb-true, eq-eqb, ne_eqb}
use Rattle.laws.proofs.Choice.{and_left, and_right, and_both, bool_cases, same?}
use Rattle.laws.proofs.Lists.{get_or_default, any_append}
use Rattle.cutter_ground.specs.Cells.{CN, CB_FILLED, cell_at, right_of, up_of, down_of}
use Rattle.cutter_ground.specs.CodeVisit.{SEEN, Holds, Room, Visited, Around}
use Rattle.cutter_ground.proofs.Visits.{holds_in, room-kept}
use Rattle.cutter_border.specs.Walks.{claimed_cell}
use Rattle.cutter_border.specs.Taken.{among}
use Rattle.cutter_border.specs.CodeBorder.{reach, reach_around}

-- what a claimed cell is
module _ (g : List ℕ) (c : ℕ) where
  pub claimed_in_lem : claimed_cell g c ≡ true → c < CN
  unfolding claimed_cell
  claimed_in_lem e = ltb-true c CN (and_left (ltb c CN) _ e)

  pub claimed_code : claimed_cell g c ≡ true → cell_at g c ≡ CB_FILLED
  unfolding claimed_cell
  claimed_code e = eqb-true (cell_at g c) CB_FILLED (and_right (ltb c CN) _ e)

  pub code_claimed : c < CN → cell_at g c ≡ CB_FILLED → claimed_cell g c ≡ true
  unfolding claimed_cell
  code_claimed h e = and_both (ltb c CN) (eqb (cell_at g c) CB_FILLED) (lt-ltb c CN h) (eq-eqb (cell_at g c) CB_FILLED e)

  -- a visit's test says the same
  holds-claimed : length g ≡ CN → Holds g CB_FILLED c → claimed_cell g c ≡ true
  holds-claimed l h =
      let i = holds_in g CB_FILLED c (omega arith) h in
      code_claimed (omega arith) (get_or_default g c CB_FILLED 3 i ∙ h)

  claimed-holds : length g ≡ CN → claimed_cell g c ≡ true → Holds g CB_FILLED c
  claimed-holds l e = get_or_default g c 3 CB_FILLED (omega (arith, claimed_in_lem e)) ∙ claimed_code e

-- a cell is reached, or it is not claimed, or it was reached before
module _ (g cells : List ℕ) (c : ℕ) where
  pub reach-new : claimed_cell g c ≡ true → among c cells ≡ false → reach g cells c ≡ cells ++ c ∷ []
  unfolding reach
  reach-new e f = simp (e, f)

  pub reach-off : claimed_cell g c ≡ false → reach g cells c ≡ cells
  unfolding reach
  reach-off e = simp e

  pub reach-old : among c cells ≡ true → reach g cells c ≡ cells
  unfolding reach
  reach-old e = simp (e, and-false)

-- a mark that is set
abbrev pub marked : List ℕ → ℕ → Bool
marked seen c = not (eqb (get_or seen c 0) 0)

pub marked-none : (seen : List ℕ) (c : ℕ) → get_or seen c 0 ≡ 0 → marked seen c ≡ false
marked-none seen c e = ap (λ (n : ℕ). not (eqb n 0)) e

pub none-marked : (seen : List ℕ) (c : ℕ) → marked seen c ≡ false → get_or seen c 0 ≡ 0
none-marked seen c e = eqb-true (get_or seen c 0) 0 (not-false (eqb (get_or seen c 0) 0) e)

-- the first t of the queue are the cells reached
pub record Reached (g seen q : List ℕ) (t : ℕ) : Type 0 where
  pub room : Room g seen q t CB_FILLED
  pub marks : (c : ℕ) → among c (take t q) ≡ marked seen c

-- one cell more is marked
module _ (seen cells : List ℕ) (at : ℕ) (h : at < length seen) (m : (c : ℕ) → among c cells ≡ marked seen c) where
  pub mark_first : (c : ℕ) → among c (at ∷ cells) ≡ marked (set seen at SEEN) c
  mark_first c =
      ⊎_elim
      (λ (e : c ≡ at). rw (eq-eqb c at e)
      (sym (ap (λ (n : ℕ). not (eqb n 0)) (subst (λ (n : ℕ). get_or (set seen at SEEN) n 0 ≡ SEEN) (sym e) (get_or-set_same seen at SEEN 0 h)))))
      (λ (n : c ≡ at → ⊥). rw (ne_eqb c at n) (m c ∙ sym (ap (λ (n : ℕ). not (eqb n 0)) (get_or-set_other seen at c SEEN 0 n))))
      (same? c at)

  pub mark_more : (c : ℕ) → among c (cells ++ at ∷ []) ≡ marked (set seen at SEEN) c
  mark_more c = any_append (eqb c) cells (at ∷ []) ∙ last_first (among c cells) (eqb c at) ∙ mark_first c
    where
      last_first : (a b : Bool) → (a || (b || false)) ≡ (b || a)
      last_first true true = refl
      last_first true false = refl
      last_first false true = refl
      last_first false false = refl

-- the tables after some visits, where the definition has reached these cells
pub record Steps (g cells : List ℕ) (seen' q' : List ℕ) (t' : ℕ) : Type 0 where
  pub list : take t' q' ≡ cells
  pub reached : Reached g seen' q' t'

visit_reaches : {g seen q : List ℕ} {t at : ℕ} {seen' q' : List ℕ} {t' : ℕ} → Reached g seen q t → Visited g seen q t at CB_FILLED seen' q' t'
    → Steps g (reach g (take t q) at) seen' q' t'
visit_reaches {g} {seen} {q} {t} {at} {seen'} {q'} {t'} r (inl p) =
    let room : Room g seen' q' t' CB_FILLED = room-kept r.room (inl p) in
    let inn : at < length seen = omega (arith, r.room, holds_in g CB_FILLED at r.room.kind p.holds) in
    let end : t < length q = omega (arith, r.room.queue, room.room, p.tail) in
    let new : take t' q' ≡ take t q ++ at ∷ [] = ap₂ take (p.tail ∙ add-one t) p.queue ∙ take-suc-set q t at end in
    let fresh = r.marks at ∙ marked-none seen at p.fresh in
    record {
      list = new ∙ sym (reach-new g (take t q) at (holds-claimed g at r.room.cells p.holds) fresh);
      reached = record { room = room; marks = λ c. ap (among c) new ∙ mark_more seen (take t q) at inn r.marks c ∙ sym (ap (λ (l : List ℕ). marked l c) p.marks) };
    }
visit_reaches {g} {seen} {q} {t} {at} {seen'} {q'} {t'} r (inr p) =
    let same : take t' q' ≡ take t q = ap₂ take p.tail p.queue in
    let seen_at : claimed_cell g at ≡ true → marked seen at ≡ true = λ e.
    ⊎_elim (λ m. m) (λ (m : marked seen at ≡ false). absurd (p.why (claimed-holds g at r.room.cells e) (none-marked seen at m))) (bool_cases (marked seen at)) in
    record {
      list = same ∙ sym (⊎_elim (λ e. reach-old g (take t q) at (r.marks at ∙ seen_at e)) (reach-off g (take t q) at) (bool_cases (claimed_cell g at)));
      reached = record { room = room-kept r.room (inr p); marks = λ c. ap (among c) same ∙ r.marks c ∙ sym (ap (λ (l : List ℕ). marked l c) p.marks) };
    }

pub around_reaches : {g seen q : List ℕ} {t at : ℕ} {seen' q' : List ℕ} {t' : ℕ} → Reached g seen q t → Around g seen q t at CB_FILLED seen' q' t'
    → Steps g (reach_around g (take t q) at) seen' q' t'
unfolding reach_around
around_reaches {g} {seen} {q} {t} {at} r a =
    let one = visit_reaches r a.first in
    let two = visit_reaches one.reached a.second in
    let three = visit_reaches two.reached a.third in
    let four = visit_reaches three.reached a.fourth in
    let by : (c : ℕ) (l m : List ℕ) → l ≡ m → reach g l c ≡ reach g m c = λ c l m e. ap (λ (k : List ℕ). reach g k c) e in
    record {
      list = four.list ∙ by (down_of at) _ _ (three.list ∙ by (up_of at) _ _ (two.list ∙ by (right_of at) _ _ one.list));
      reached = four.reached;
    }
