use mathlib.Core.Path.{◌≡◌, sym, ap, ◌∙◌}
use Prim.Native.Nat.{ℕ}
use native.Mathlib.Omega.{arith}
use lib.ListN.{get_or}
use Rattle.cutter_ground.specs.Movers.{blank_slot}
use Rattle.cutter_capture.specs.CodeSteps.{mark_of}
use Rattle.cutter_capture.proofs.Herds.{keeping_room, keeping_hit, keeping_miss}
use Rattle.cutter_capture.proofs.retain.Goals as goal
use Rattle.cutter_capture.proofs.retain.Goals.{else-seen-cell_of, then-seen-cell_of}

pub offset_bounds-kept-count : goal.offset_bounds-kept-count
offset_bounds-kept-count c = omega (arith, keeping_room c.loop-e.invariant blank_slot c.loop-e-test.true c.requires.1.few)

pub bounds-kept-count : goal.bounds-kept-count
bounds-kept-count c = keeping_room c.loop-e.invariant blank_slot c.loop-e-test.true c.requires.1.few

pub overflow_add-count : goal.overflow_add-count
overflow_add-count c = omega (arith, keeping_room c.loop-e.invariant blank_slot c.loop-e-test.true c.requires.1.few)

pub loop-e-preserved : goal.loop-e-preserved
loop-e-preserved c =
    let h = c.loop-e-test.true in
    let i = c.loop-e.invariant in
    let N = c.args.seen.now in
    let l = c.requires.1.few in
    let e : mark_of N (get_or c.args.enemies.now c.loop-e.e-index blank_slot) ≡ get_or N c.cell_of.result 0 = ap (λ (x : ℕ). get_or N x 0) (sym c.cell_of.ensures) in
    elim c.if-seen-cell_of.branch [
      | then-seen-cell_of w ↦ rw (w.kept-is, w.count-is) (keeping_hit i blank_slot h l (e ∙ w.if-seen-cell_of.true))
      | else-seen-cell_of w ↦ rw (w.kept-is, w.count-is) (keeping_miss i blank_slot h l (λ z. w.if-seen-cell_of.false (sym e ∙ z)))
    ]
