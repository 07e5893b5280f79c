use mathlib.Core.Path.{◌∙◌, sym}
use Rattle.refusal.proofs.Calls.{ok_zero}
use Rattle.mine_state.proofs.Facts.{accepted}
use Rattle.mine.proofs.calls.gravity.Goals as goal

pub gravity-requires : goal.gravity-requires
gravity-requires c = accepted _ (ok_zero (sym c.check.ensures ∙ c.in-Ok.is))
