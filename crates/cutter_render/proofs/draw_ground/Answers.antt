use mathlib.Core.Path.{◌≡◌, ◌∙◌}
use native.Mathlib.Omega.{arith}
use Rattle.laws.proofs.Table.{table_none, table-whole}
use Rattle.frame.specs.Frame.{pack, page_byte}
use Rattle.cutter_picture.specs.Picture.{ground_lit}
use Rattle.cutter_render.proofs.draw_ground.Goals as goal

pub loop-p-init : goal.loop-p-init
loop-p-init c = table_none _ _

pub returns : goal.returns
unfolding pack
returns c =
    let e : c.loop-p.p ≡ 8 = omega arith in
    c.loop-p.invariant ∙ rw e (table-whole 1024 (page_byte (ground_lit c.args.grid.now)) c.args.frame.now c.requires.whole)
