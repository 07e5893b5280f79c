use Prim.Native.Nat.{◌-◌}
use Rattle.cutter_ground.specs.Cells.{CN}
use Rattle.cutter_border.proofs.Walking.{Walking}
use Rattle.cutter_border.proofs.seek.Given as goal

abbrev pub invariant-loop-head : goal.invariant-loop-head
invariant-loop-head l = Walking l.grid l.start l.seen l.queue l.head l.tail

abbrev pub decreases-loop-head : goal.decreases-loop-head
decreases-loop-head l = CN - l.head
