use Rattle.cutter_sweeps.proofs.Telling.{Telling}
use Rattle.cutter_sweeps.proofs.numbers_left.Given as goal

abbrev pub invariant-loop-i : goal.invariant-loop-i
invariant-loop-i l = Telling l.grid l.nums l.met l.n l.i
