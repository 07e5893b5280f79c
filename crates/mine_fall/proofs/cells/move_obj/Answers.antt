use mathlib.Core.Path.{refl}
use native.Mathlib.Omega.{arith}
use Rattle.mine_rules.specs.Gravity.{carried}
use Rattle.mine_fall.proofs.cells.move_obj.Goals as goal

pub returns : goal.returns
unfolding carried
returns c = λ m. (refl, omega arith)
