use Prim.Native.Nat.{◌+◌, ◌*◌, ◌≤◌}
use Rattle.cutter_ground.specs.Cells.{CN}
use Rattle.cutter_joined.proofs.Labels.{total}
use Rattle.cutter_sweeps.specs.CodeTable.{Reached}
use Rattle.trainer.proofs.lesson.tell_sweeps.Given as goal

abbrev pub invariant-loop-k : goal.invariant-loop-k
invariant-loop-k g l = Reached l.grid l.nums × (l.k + total l.nums ≤ CN * CN)

abbrev pub decreases-loop-k : goal.decreases-loop-k
decreases-loop-k g l = total l.nums
