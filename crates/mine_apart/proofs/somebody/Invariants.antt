use mathlib.Core.Bool.{◌||◌}
use mathlib.Core.Path.{◌≡◌}
use lib.ListN.{drop}
use Rattle.laws.specs.Lists.{any}
use Rattle.mine_apart.specs.CodeApart.{is_spot}
use Rattle.mine_apart.proofs.somebody.Given as goal

abbrev pub invariant-loop-s : goal.invariant-loop-s
invariant-loop-s l = (l.some || any (is_spot l.at) (drop l.s-index l.spots)) ≡ any (is_spot l.at) l.spots
