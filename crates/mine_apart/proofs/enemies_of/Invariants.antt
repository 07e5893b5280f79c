use mathlib.Core.Path.{◌≡◌}
use Rattle.mine_apart.specs.CodeApart.{joined}
use Rattle.mine_apart.proofs.enemies_of.Given as goal

abbrev pub invariant-loop-i : goal.invariant-loop-i
invariant-loop-i l = l.out ≡ joined l.i l.spots l.dirs
