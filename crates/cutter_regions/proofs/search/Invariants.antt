use Prim.Native.Nat.{◌-◌}
use lib.ListN.{set}
use Rattle.cutter_ground.specs.Cells.{CN}
use Rattle.cutter_regions.proofs.Seeking.{Searching}
use Rattle.cutter_regions.proofs.search.Given as goal

abbrev pub invariant-loop-head : goal.invariant-loop-head
invariant-loop-head l = Searching l.grid (set l.initial.seen l.start 0) l.initial.queue l.from l.start l.seen l.queue l.head l.tail

abbrev pub decreases-loop-head : goal.decreases-loop-head
decreases-loop-head l = CN - l.head
