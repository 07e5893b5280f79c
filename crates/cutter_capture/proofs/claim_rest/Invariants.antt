use Rattle.cutter_capture.proofs.Claims.{Claiming}
use Rattle.cutter_capture.proofs.claim_rest.Given as goal

abbrev pub invariant-loop-at : goal.invariant-loop-at
invariant-loop-at l = Claiming l.initial.grid l.seen l.grid l.at
