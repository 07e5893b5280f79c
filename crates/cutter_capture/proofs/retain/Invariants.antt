use Rattle.cutter_capture.proofs.Herds.{Keeping}
use Rattle.cutter_capture.proofs.retain.Given as goal

abbrev pub invariant-loop-e : goal.invariant-loop-e
invariant-loop-e l = Keeping l.seen l.keep l.enemies l.kept l.count l.e-index
