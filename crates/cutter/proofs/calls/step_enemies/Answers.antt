use mathlib.Core.Path.{◌∙◌, sym}
use Rattle.refusal.proofs.Calls.{ok_zero}
use Rattle.cutter_state.proofs.Facts.{accepted}
use Rattle.cutter.proofs.calls.step_enemies.Goals as goal

pub step_enemies-requires : goal.step_enemies-requires
step_enemies-requires c = accepted _ (ok_zero (sym c.check.ensures ∙ c.in_default.is))
