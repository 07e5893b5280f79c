use Rattle.cutter_joined.proofs.Labels.{labels}
use Rattle.cutter_capture.proofs.Between.{Between}
use Rattle.cutter_capture.proofs.choose.Given as goal

abbrev pub invariant-loop-start : goal.invariant-loop-start
invariant-loop-start l = Between l.grid (labels l.grid).0 l.limit l.enemies l.seen l.queue l.lead l.done l.tail l.stood l.start
