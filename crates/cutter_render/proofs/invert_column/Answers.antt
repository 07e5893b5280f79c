use mathlib.Core.Path.{◌∙◌}
use mathlib.Core.Bool.{xor}
use native.Mathlib.Omega.{arith}
use lib.Bits.{bit_xor}
use Rattle.bits.proofs.Number.{number_xor}
use Rattle.frame.proofs.Draw.{length-framed, draw_byte, xor_false}
use Rattle.cutter_render.proofs.Marks.{column_here, column_off}
use Rattle.cutter_render.proofs.invert_column.Goals as goal

pub bounds-frame-at : goal.bounds-frame-at
bounds-frame-at c = let e = length-framed _ c.requires.framed in omega arith

pub bounds-frame-at-2 : goal.bounds-frame-at-2
bounds-frame-at-2 c = let e = length-framed _ c.requires.framed in omega arith

pub returns : goal.returns
returns c =
    let a = c.args in
    let h = c.requires in
    draw_byte xor bit_xor (number_xor 8) xor_false _ _ _ (omega arith)
    (c.cell_mask.ensures ∙ column_here a.x a.cy h.across h.down)
    (column_off a.x a.cy h.across h.down)
    a.frame.now h.framed
