use mathlib.Core.Path.{◌≡◌}
use native.Mathlib.Omega.{arith}
use Rattle.cutter_ground.specs.Cells.{CH}
use Rattle.cutter_state.specs.WellFormed.{columns_filled}
use Rattle.cutter_check.proofs.columns_filled.Goals as goal

pub returns : goal.returns
unfolding columns_filled
returns c =
    let e : c.loop-y.y ≡ CH = omega (arith, c.loop-y.auto.y-end, c.loop-y-test.false) in
    rw e at c.loop-y.invariant
