use native.Mathlib.Omega.{arith}
use Rattle.frame.specs.Frame.{pixel}
use Rattle.frame.proofs.Draw.{length-pack}
use Rattle.mine_render.proofs.Stamp.{column_more}
use Rattle.mine_render.proofs.blit.Goals as goal

pub bounds-frame-at : goal.bounds-frame-at
bounds-frame-at c = rw (c.loop-gx.invariant, length-pack) (omega arith)

pub bounds-frame-at-in-loop-gx : goal.bounds-frame-at-in-loop-gx
bounds-frame-at-in-loop-gx c = rw (c.loop-gx.invariant, length-pack) (omega arith)

pub loop-gx-preserved : goal.loop-gx-preserved
loop-gx-preserved c =
    let a = c.args in
    let l = c.loop-gx in
    rw l.invariant
    (column_more a.col a.row l.gx a.cols (omega arith) (omega arith) (omega arith) (pixel a.frame.now) _ (omega arith) (c.requires.bytes _ (omega arith)))
