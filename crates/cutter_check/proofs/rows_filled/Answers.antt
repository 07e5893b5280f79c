use mathlib.Core.Path.{◌≡◌}
use native.Mathlib.Omega.{arith}
use Rattle.cutter_ground.specs.Cells.{CW}
use Rattle.cutter_state.specs.WellFormed.{rows_filled}
use Rattle.cutter_check.proofs.rows_filled.Goals as goal

pub returns : goal.returns
unfolding rows_filled
returns c =
    let e : c.loop-x.x ≡ CW = omega (arith, c.loop-x.auto.x-end, c.loop-x-test.false) in
    rw e at c.loop-x.invariant
