use mathlib.Core.Path.{◌∙◌, sym}
use Rattle.refusal.proofs.Calls.{ok_zero}
use Rattle.cutter_state.proofs.Facts.{accepted}
use Rattle.cutter.proofs.picture.render.Goals as goal

pub cutter_render-requires : goal.cutter_render-requires
cutter_render-requires c =
    let w = accepted _ (ok_zero (sym c.check.ensures ∙ c.in_ok-check.was)) in
    record { formed = w; whole = c.if-frame-ne-FRAME_LEN.false }
