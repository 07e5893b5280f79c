use mathlib.Core.Path.{◌∙◌}
use mathlib.Core.Bool.{◌||◌, or-false}
use native.Mathlib.Omega.{arith}
use lib.Bits.{bit_or}
use Rattle.bits.proofs.Number.{number_or}
use Rattle.frame.proofs.Draw.{length-framed, draw_byte}
use Rattle.cutter_render.proofs.Marks.{dot_here, dot_off}
use Rattle.cutter_render.proofs.put_ink.Goals as goal

pub bounds-frame-at : goal.bounds-frame-at
bounds-frame-at c = let e = length-framed _ c.requires.framed in omega arith

pub bounds-frame-at-2 : goal.bounds-frame-at-2
bounds-frame-at-2 c = let e = length-framed _ c.requires.framed in omega arith

pub returns : goal.returns
returns c =
    let a = c.args in
    let h = c.requires in
    draw_byte ◌||◌ bit_or (number_or 8) or-false _ _ _ (omega arith)
    (c.dot.ensures ∙ dot_here a.x a.y h.across h.down)
    (dot_off a.x a.y h.across h.down)
    a.frame.now h.framed
