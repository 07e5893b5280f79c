use Rattle.cutter_regions.specs.CodeGathering.{Gathered}
use Rattle.cutter_regions.proofs.gather.Given as goal

abbrev pub invariant-loop-c : goal.invariant-loop-c
invariant-loop-c l = Gathered l.nums l.initial.seen l.initial.queue l.from l.start l.seen l.queue l.tail l.c
