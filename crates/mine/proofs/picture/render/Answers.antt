use mathlib.Core.Path.{◌∙◌, sym}
use Rattle.refusal.proofs.Calls.{ok_zero}
use Rattle.mine_state.proofs.Facts.{accepted}
use Rattle.mine.proofs.picture.render.Goals as goal

pub render-requires : goal.render-requires
render-requires c =
    let w = accepted _ (ok_zero (sym c.check.ensures ∙ c.in_ok-check.was)) in
    record { few = w.few; whole = c.if-frame-ne-FRAME_LEN.false }
