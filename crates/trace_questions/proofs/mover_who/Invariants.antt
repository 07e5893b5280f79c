use mathlib.Core.Path.{◌≡◌}
use Prim.Native.Nat.{◌-◌}
use lib.ListN.{take}
use Rattle.found.specs.First.{first}
use Rattle.trace_questions.specs.Lists.{movers_in}
use Rattle.cutter_ground.specs.Movers.{stands_at}
use Rattle.trace_questions.proofs.mover_who.Given as goal

abbrev pub invariant-loop-from : goal.invariant-loop-from
invariant-loop-from l = l.found ≡ first (stands_at l.x l.y) (take l.from (movers_in l.list))

abbrev pub decreases-loop-from : goal.decreases-loop-from
decreases-loop-from l = l.n - l.from
