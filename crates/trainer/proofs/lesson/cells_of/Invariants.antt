use mathlib.Core.Path.{◌≡◌}
use Prim.Native.Nat.{◌+◌, ◌≤◌}
use lib.ListN.{drop}
use Rattle.laws.specs.Lists.{tally}
use Rattle.trainer.proofs.lesson.cells_of.Given as goal

abbrev pub invariant-loop-own : goal.invariant-loop-own
invariant-loop-own l = (l.n ≤ l.own-index) × (l.n + tally l.number (drop l.own-index l.nums) ≡ tally l.number l.nums)
