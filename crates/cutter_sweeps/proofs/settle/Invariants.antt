use Rattle.cutter_joined.proofs.Labels.{total}
use Rattle.cutter_sweeps.specs.CodeTable.{Reached}
use Rattle.cutter_sweeps.proofs.settle.Given as goal

abbrev pub invariant-loop : goal.invariant-loop
invariant-loop l = Reached l.grid l.nums

abbrev pub decreases-loop : goal.decreases-loop
decreases-loop l = total l.nums
