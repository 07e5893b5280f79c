use mathlib.Core.Path.{◌≡◌, ◌∙◌}
use native.Mathlib.Omega.{arith}
use lib.ListN.{take}
use lib.Seq.{take_all}
use Rattle.frame.proofs.Draw.{framed-pack}
use Rattle.mine_render.proofs.Layers.{enemies_more}
use Rattle.mine_render.proofs.draw_enemies.Goals as goal

pub draw_at-requires : goal.draw_at-requires
draw_at-requires c = rw c.loop-e.invariant (framed-pack _)

pub loop-e-preserved : goal.loop-e-preserved
loop-e-preserved c =
    let a = c.args in
    let l = c.loop-e in
    c.draw_at.ensures ∙ enemies_more a.frame.now a.enemies.now a.view.x a.view.y l.e-index _ l.frame (omega arith) l.invariant

pub returns : goal.returns
returns c =
    let all : take c.loop-e.e-index c.args.enemies.now ≡ c.args.enemies.now = take_all _ _ (omega arith) in
    rw all at c.loop-e.invariant
