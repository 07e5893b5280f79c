use Rattle.std.proofs.Common.{◌+◌, ◌-◌, drop, get_or-drop, arith, ◌∙◌}
use lib.Seq.{get_or-take}
use Rattle.cutter_capture.proofs.Marks.{marked_turn}
use Rattle.cutter_capture.proofs.mark.Goals as goal

pub loop-at-preserved : goal.loop-at-preserved
loop-at-preserved c =
    let q = c.args.queue.now in
    let a = c.args.part.from in
    let k = c.args.part.to - a in
    let i = c.loop-at.at-index in
    let cell = get_or-take k (drop a q) i 0 (omega arith) ∙ get_or-drop a q i 0 in
    marked_turn i c.loop-at.invariant cell (omega (arith, cell, c.requires.inn (a + i) (omega arith) (omega arith)))
