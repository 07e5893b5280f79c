use mathlib.Core.Path.{◌∙◌}
use native.Mathlib.Omega.{arith}
use Rattle.frame.proofs.Draw.{framed-pack}
use Rattle.cutter_render.proofs.Layers.{both-columns}
use Rattle.cutter_render.proofs.draw_player.Goals as goal

pub invert_column-requires-2 : goal.invert_column-requires-2
invert_column-requires-2 c = record
    { framed = rw c.invert_column.ensures (framed-pack _); across = omega arith; down = c.requires.down }

pub returns : goal.returns
returns c =
    let a = c.args in
    c.invert_column-2.ensures ∙ both-columns a.frame.now _ a.px a.py c.invert_column.ensures
