use Rattle.cutter_sweeps.proofs.Sweeping.{Sweeping}
use Rattle.cutter_sweeps.proofs.sweep_once.Given as goal

abbrev pub invariant-loop-at : goal.invariant-loop-at
invariant-loop-at l = Sweeping l.grid l.initial.nums l.nums l.changed l.at
