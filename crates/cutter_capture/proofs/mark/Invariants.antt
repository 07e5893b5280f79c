use Prim.Native.Nat.{◌+◌}
use Rattle.cutter_capture.specs.CodeChoosing.{Marked}
use Rattle.cutter_capture.proofs.mark.Given as goal

abbrev pub invariant-loop-at : goal.invariant-loop-at
invariant-loop-at l = Marked l.initial.seen l.queue l.fn.part.from (l.fn.part.from + l.at-index) l.seen
