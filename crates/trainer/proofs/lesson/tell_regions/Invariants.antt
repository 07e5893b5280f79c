use Prim.Native.Nat.{◌≤◌}
use Rattle.trainer.proofs.lesson.tell_regions.Given as goal

abbrev pub invariant-loop-at : goal.invariant-loop-at
invariant-loop-at g l = l.told ≤ l.at
