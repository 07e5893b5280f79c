use mathlib.Core.Bool.{false}
use mathlib.Core.Path.{◌≡◌}
use Rattle.mine_fall.specs.CodeFalls.{Quietly}
use Rattle.mine_fall.proofs.cells.quiet.Given as goal

abbrev pub invariant-loop-x : goal.invariant-loop-x
invariant-loop-x l = l.some ≡ false → Quietly l.grid l.falling l.y l.x
