use mathlib.Core.Path.{◌≡◌}
use Prim.Native.Nat.{◌+◌, ◌≤◌}
use lib.ListN.{drop}
use Rattle.laws.specs.Lists.{tally}
use Rattle.cutter_ground.proofs.count_of.Given as goal

abbrev pub invariant-loop-code : goal.invariant-loop-code
invariant-loop-code l = (l.n ≤ l.code-index) × (l.n + tally l.kind (drop l.code-index l.grid) ≡ tally l.kind l.grid)
