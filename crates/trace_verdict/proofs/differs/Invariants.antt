use mathlib.Core.Path.{◌≡◌}
use Prim.Native.Nat.{◌≤◌}
use lib.ListN.{length, drop}
use Rattle.trace_verdict.specs.Compare.{differ_from, first_difference}
use Rattle.trace_verdict.proofs.differs.Given as goal

abbrev pub invariant-loop-i : goal.invariant-loop-i
invariant-loop-i l = (l.i ≤ length l.a) × (l.i ≤ length l.b) × (differ_from l.i (drop l.i l.a) (drop l.i l.b) ≡ first_difference l.a l.b)
