use mathlib.Core.Bool.{false}
use mathlib.Core.Path.{◌≡◌}
use Rattle.mine_fall.specs.CodeFalls.{Barely}
use Rattle.mine_fall.proofs.cells.bare.Given as goal

abbrev pub invariant-loop-x : goal.invariant-loop-x
invariant-loop-x l = l.some ≡ false → Barely l.grid l.y l.x
