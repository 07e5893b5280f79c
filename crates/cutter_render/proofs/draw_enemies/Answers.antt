use mathlib.Core.Path.{◌≡◌, refl, ◌∙◌}
use native.Mathlib.Omega.{arith}
use lib.IntN.{pos}
use lib.ListN.{take}
use lib.Seq.{take_all}
use Rattle.frame.proofs.Draw.{framed-pack}
use Rattle.cutter_render.proofs.Marks.{on_panel_lem}
use Rattle.cutter_render.proofs.Layers.{movers_more}
use Rattle.cutter_render.proofs.draw_enemies.Goals as goal

pub put_ink-requires : goal.put_ink-requires
put_ink-requires c =
    let h = on_panel_lem c.args.enemies.now c.loop-e.e-index (record { x = 0; y = 0; vx = pos 0; vy = pos 0 }) refl c.requires.each in
    record { framed = rw c.loop-e.invariant (framed-pack _); across = omega arith; down = omega arith }

pub loop-e-preserved : goal.loop-e-preserved
loop-e-preserved c =
    let a = c.args in
    let l = c.loop-e in
    c.put_ink.ensures ∙ movers_more a.frame.now a.enemies.now l.e-index _ l.frame (omega arith) l.invariant

pub returns : goal.returns
returns c =
    let all : take c.loop-e.e-index c.args.enemies.now ≡ c.args.enemies.now = take_all _ _ (omega arith) in
    rw all at c.loop-e.invariant
