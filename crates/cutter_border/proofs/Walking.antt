-- The loop of the walk: what is left to do from the head on is the walk's answer. Assumes nothing.
use mathlib.Core.Bool.{Bool, true, false, cond, true≢false}
use mathlib.Core.Logic.{⊎_elim}
use mathlib.Core.List.{List, [], ◌∷◌}
use mathlib.Core.Path.{◌≡◌, refl, sym, ap, subst, ◌∙◌}
use Prim.Native.Nat.{ℕ, zero, suc, ◌+◌, ◌-◌, ◌≤◌, ◌<◌}
use native.Mathlib.Omega.{arith}
use lib.Dec.{eqb}
use lib.ListN.{length, get_or, set, take, length-set, length-replicate, get_or-eq_default}
use lib.Seq.{get_or-take, length-take-le, take-suc-set}
use borrow.Author.Tests.{lt-ltb, le-ltb, eq-eqb}
use Rattle.laws.proofs.Counts.{tally_le, tally_lose}
use Rattle.laws.proofs.Lists.{get_or_default, get_or_replicate_same_lem, any_at}
use Rattle.laws.proofs.Choice.{below?}
use Rattle.cutter_ground.specs.Cells.{CN, CB_FILLED, on_border}
use Rattle.cutter_ground.specs.CodeVisit.{SEEN, Around}
use Rattle.cutter_border.specs.Taken.{among}
use Rattle.cutter_border.specs.CodeBorder.{reach_around, walk, to_border}
use Rattle.cutter_border.specs.CodeTables.{Cleared}
use Rattle.cutter_border.proofs.Reaching.{marked-none, Reached, mark_more, around_reaches}

-- the walk at its i-th cell: it ends there, it goes on, or no cell is left
module _ (g : List ℕ) (start : ℕ) (cells : List ℕ) (i : ℕ) where
  pub ends : (n : ℕ) → i < length cells → on_border g (get_or cells i CN) ≡ true → walk (suc n) g start cells i ≡ record { at = get_or cells i CN; taken = i + 1 }
  unfolding walk
  ends n h e = rw (lt-ltb i (length cells) h, e, walk)

  pub goes : (n : ℕ) → i < length cells → on_border g (get_or cells i CN) ≡ false → walk (suc n) g start cells i ≡ walk n g start (reach_around g cells (get_or cells i CN)) (i + 1)
  unfolding walk
  goes n h e = rw (lt-ltb i (length cells) h, e, walk)

  pub none : (n : ℕ) → length cells ≤ i → walk n g start cells i ≡ record { at = start; taken = i }
  unfolding walk
  none zero h = refl
  none (suc n) h = rw (le-ltb i (length cells) h, walk)

-- before the cell at head is taken: the queue's front is the list of cells reached, and what is left to do is the answer
pub record Walking (g : List ℕ) (start : ℕ) (seen q : List ℕ) (head t : ℕ) : Type 0 where
  pub reached : Reached g seen q t
  pub answer : walk (CN - head) g start (take t q) head ≡ walk CN g start (start ∷ []) 0

module _ {g : List ℕ} {start : ℕ} {seen q : List ℕ} {head t : ℕ} (w : Walking g start seen q head t) where
  pub tail_in : t ≤ CN
  tail_in = omega (arith, w.reached.room.room)

  many : length (take t q) ≡ t
  many = length-take-le t q (omega (arith, tail_in, w.reached.room.queue))

  module _ (h : head < t) where
    -- the cell at head, as code and definition read it
    here : get_or (take t q) head CN ≡ get_or q head 0
    here = get_or-take t q head CN h ∙ get_or_default q head CN 0 (omega (arith, tail_in, w.reached.room.queue))

    -- which is a cell of the grid, since it has a mark
    pub head_in : get_or q head 0 < CN
    head_in =
        let at = get_or q head 0 in
        let e = any_at (eqb at) (take t q) head CN (omega (arith, many)) (eq-eqb at (get_or (take t q) head CN) (sym here)) in
        let m = sym (w.reached.marks at) ∙ e in
        ⊎_elim (λ l. l)
        (λ l. absurd (true≢false (sym m ∙ marked-none seen at (get_or-eq_default seen 0 {n = at} (omega (arith, w.reached.room.marks))))))
        (below? at CN)

    next : (b : Bool) → on_border g (get_or q head 0) ≡ b → on_border g (get_or (take t q) head CN) ≡ b
    next b e = ap (on_border g) here ∙ e

    left : CN - head ≡ suc (CN - (head + 1))
    left = omega (arith, tail_in)

    pub walk_found : on_border g (get_or q head 0) ≡ true → record { at = get_or q head 0; taken = head + 1 } ≡ walk CN g start (start ∷ []) 0
    walk_found e =
        ap (λ (c : ℕ). record { at = c; taken = head + 1 }) (sym here)
        ∙ sym (ends g start (take t q) head (CN - (head + 1)) (omega (arith, many)) (next true e))
        ∙ ap (λ (n : ℕ). walk n g start (take t q) head) (sym left)
        ∙ w.answer

    pub walk_turn : on_border g (get_or q head 0) ≡ false → {seen' q' : List ℕ} {t' : ℕ} → Around g seen q t (get_or q head 0) CB_FILLED seen' q' t'
        → Walking g start seen' q' (head + 1) t'
    walk_turn e {seen'} {q'} {t'} a =
        let s = around_reaches w.reached a in
        let more = subst (λ (c : ℕ). reach_around g (take t q) (get_or q head 0) ≡ reach_around g (take t q) c) (sym here) refl in
        record {
          reached = s.reached;
          answer =
              ap (λ (l : List ℕ). walk (CN - (head + 1)) g start l (head + 1)) (s.list ∙ more)
              ∙ sym (goes g start (take t q) head (CN - (head + 1)) (omega (arith, many)) (next false e))
              ∙ ap (λ (n : ℕ). walk n g start (take t q) head) (sym left)
              ∙ w.answer;
        }

  pub walk_none : t ≤ head → record { at = start; taken = head } ≡ walk CN g start (start ∷ []) 0
  walk_none h = sym (none g start (take t q) head (CN - head) (omega (arith, many))) ∙ w.answer

-- the walk begins: start is marked and stands first in the queue
pub walk_start : {g seen q : List ℕ} {start : ℕ} → Cleared g seen q start → Walking g start (set seen start SEEN) (set q 0 start) 0 1
walk_start {g} {seen} {q} {start} c =
    let all : length seen ≡ CN = ap length c.clear ∙ length-replicate {A = ℕ} CN 0 in
    let zero-at : (i : ℕ) → get_or seen i 0 ≡ 0 = λ i. ap (λ (l : List ℕ). get_or l i 0) c.clear ∙ get_or_replicate_same_lem CN i 0 in
    let inn : start < length seen = omega (arith, c.inside) in
    let one : take 1 (set q 0 start) ≡ start ∷ [] = take-suc-set q 0 start (omega (arith, c.long)) in
    record {
      reached = record {
        room = record {
          cells = c.cells;
          marks = length-set seen start SEEN ∙ all;
          queue = length-set q 0 start ∙ c.long;
          kind = omega arith;
          room = omega (arith, tally_le 0 seen, tally_lose seen start 0 SEEN inn (zero-at start) (λ e. omega arith));
        };
        marks = λ i. ap (among i) one ∙ mark_more seen [] start inn (λ j. sym (marked-none seen j (zero-at j))) i;
      };
      answer = ap (λ (l : List ℕ). walk CN g start l 0) one;
    }

-- no walk where the start is beside black
module _ (g : List ℕ) (start : ℕ) where
  pub stays : on_border g start ≡ true → to_border g start ≡ record { at = start; taken = 0 }
  unfolding to_border
  stays e = ap (λ (b : Bool). cond b (record { at = start; taken = 0 }) (walk CN g start (start ∷ []) 0)) e

  pub walks : on_border g start ≡ false → to_border g start ≡ walk CN g start (start ∷ []) 0
  unfolding to_border
  walks e = ap (λ (b : Bool). cond b (record { at = start; taken = 0 }) (walk CN g start (start ∷ []) 0)) e
