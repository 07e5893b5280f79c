use mathlib.Core.Path.{refl}
use native.Mathlib.Omega.{arith}
use Rattle.cutter_render.proofs.Ground.{both_bytes}
use Rattle.cutter_render.proofs.ground_page.Goals as goal

pub loop-cx-preserved : goal.loop-cx-preserved
loop-cx-preserved c =
    let l = c.loop-cx in
    λ old h e. both_bytes c.args.grid.now c.args.p l.cx _ (omega arith) refl old l.frame _ (omega arith) c.ground_byte-b.ensures (l.invariant old h e)
