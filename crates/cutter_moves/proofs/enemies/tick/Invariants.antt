use Prim.Native.Nat.{◌≤◌}
use lib.ListN.{length}
use Rattle.cutter_moves.proofs.Roaming.{Going}
use Rattle.cutter_moves.proofs.enemies.tick.Given as goal

abbrev pub invariant-loop-i : goal.invariant-loop-i
invariant-loop-i l = (l.count ≤ length l.initial.out) × Going l.grid l.initial.out l.count l.out l.i
