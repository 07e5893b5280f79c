use mathlib.Core.Path.{◌∙◌}
use mathlib.Core.Bool.{◌&&◌, not, and-true}
use Prim.Native.Nat.{◌-◌}
use native.Mathlib.Omega.{arith}
use lib.Bits.{bit_and}
use Rattle.frame.proofs.Draw.{length-framed, draw_byte, paper_bits}
use Rattle.cutter_render.proofs.Marks.{dot_here, dot_off}
use Rattle.cutter_render.proofs.put_paper.Goals as goal

pub bounds-frame-at : goal.bounds-frame-at
bounds-frame-at c = let e = length-framed _ c.requires.framed in omega arith

pub bounds-frame-at-2 : goal.bounds-frame-at-2
bounds-frame-at-2 c = let e = length-framed _ c.requires.framed in omega arith

pub returns : goal.returns
returns c =
    let a = c.args in
    let h = c.requires in
    draw_byte (λ b t. b && not t) (λ u v. bit_and u (255 - v)) paper_bits and-true _ _ _ (omega arith)
    (c.dot.ensures ∙ dot_here a.x a.y h.across h.down)
    (dot_off a.x a.y h.across h.down)
    a.frame.now h.framed
