use mathlib.Core.Path.{◌∙◌}
use native.Mathlib.Omega.{arith}
use Rattle.frame.proofs.Draw.{framed-pack}
use Rattle.cutter_render.proofs.Layers.{lives_more}
use Rattle.cutter_render.proofs.draw_lives.Goals as goal

pub put_paper-requires : goal.put_paper-requires
put_paper-requires c = record { framed = rw c.loop-i.invariant (framed-pack _); across = omega arith; down = omega arith }

pub loop-i-preserved : goal.loop-i-preserved
loop-i-preserved c = c.put_paper.ensures ∙ lives_more c.args.frame.now c.loop-i.i c.loop-i.frame c.loop-i.invariant
