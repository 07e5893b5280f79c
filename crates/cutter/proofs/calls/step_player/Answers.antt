use mathlib.Core.Path.{◌∙◌, sym}
use Rattle.refusal.proofs.Calls.{ok_zero}
use Rattle.cutter_state.proofs.Facts.{accepted}
use Rattle.cutter.proofs.calls.step_player.Goals as goal

pub step_player-requires : goal.step_player-requires
step_player-requires c = accepted _ (ok_zero (sym c.check.ensures ∙ c.in_default.is))
