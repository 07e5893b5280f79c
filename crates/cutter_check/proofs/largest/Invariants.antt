use mathlib.Core.Path.{◌≡◌}
use lib.ListN.{drop}
use Rattle.cutter_check.specs.CodePasses.{largest_of}
use Rattle.cutter_check.proofs.largest.Given as goal

abbrev pub invariant-loop-code : goal.invariant-loop-code
invariant-loop-code l = largest_of l.most (drop l.code-index l.grid) ≡ largest_of 0 l.grid
