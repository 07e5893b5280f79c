-- What a visit keeps. Assumes nothing.
use mathlib.Core.Path.{◌≡◌, sym, ap, ◌∙◌}
use mathlib.Core.List.{List}
use mathlib.Core.Logic.{inl, inr, ⊎_elim}
use native.Mathlib.Omega.{arith}
use Prim.Native.Nat.{ℕ, ◌<◌}
use lib.ListN.{length, set, length-set, get_or, get_or-eq_default}
use Rattle.laws.specs.Lists.{tally}
use Rattle.laws.proofs.Choice.{below?}
use Rattle.laws.proofs.Counts.{tally_lose}
use Rattle.cutter_ground.specs.Cells.{CN}
use Rattle.cutter_ground.specs.CodeVisit.{SEEN, Holds, Room, Visited}

-- what holds a code is a cell of the grid
pub holds_in : (g : List ℕ) (k c : ℕ) → k < 3 → Holds g k c → c < length g
holds_in g k c l b = ⊎_elim (λ h. h) (λ h. let z : ◌≡◌ {A = ℕ} 3 k = sym (get_or-eq_default g 3 h) ∙ b in absurd (omega arith)) (below? c (length g))

-- there is room for a cell without a mark
pub room-left : {g seen q : List ℕ} {t at k : ℕ} → Room g seen q t k → at < CN → get_or seen at 0 ≡ 0 → t < CN
room-left {seen = seen} {at = at} r h e =
    let l = tally_lose seen at 0 SEEN (omega (arith, r)) e (λ z. omega arith) in
    omega (arith, r.room)

-- a visit keeps the room
pub room-kept : {g seen q : List ℕ} {t at k : ℕ} {seen' q' : List ℕ} {t' : ℕ} → Room g seen q t k → Visited g seen q t at k seen' q' t' → Room g seen' q' t' k
room-kept {g} {seen} {q} {t} {at} {k} {seen'} {q'} r (inl p) =
    let b = holds_in g k at r.kind p.holds in
    let l = tally_lose seen at 0 SEEN (omega (arith, r, b)) p.fresh (λ e. omega arith) in
    let e : tally 0 seen' ≡ tally 0 (set seen at SEEN) = ap (tally 0) p.marks in
    record {
      cells = r.cells;
      marks = ap length p.marks ∙ length-set seen at SEEN ∙ r.marks;
      queue = ap length p.queue ∙ length-set q t at ∙ r.queue;
      kind = r.kind;
      room = omega (arith, r.room, l, e, p.tail);
    }
room-kept {seen = seen} {seen' = seen'} r (inr p) =
    let e : tally 0 seen' ≡ tally 0 seen = ap (tally 0) p.marks in
    record {
      cells = r.cells;
      marks = ap length p.marks ∙ r.marks;
      queue = ap length p.queue ∙ r.queue;
      kind = r.kind;
      room = omega (arith, r.room, e, p.tail);
    }
