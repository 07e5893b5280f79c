use mathlib.Core.Path.{◌≡◌}
use lib.ListN.{drop}
use Rattle.mine_check.proofs.Creatures.{right}
use Rattle.mine_check.proofs.creatures_ok.Given as goal

abbrev pub invariant-loop-i : goal.invariant-loop-i
invariant-loop-i l = right l.grid (drop l.i l.them) ≡ right l.grid l.them
