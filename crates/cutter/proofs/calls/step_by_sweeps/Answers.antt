use mathlib.Core.Path.{◌∙◌, sym}
use Rattle.refusal.proofs.Calls.{ok_zero}
use Rattle.cutter_state.proofs.Facts.{accepted}
use Rattle.cutter.proofs.calls.step_by_sweeps.Goals as goal

pub step_by_sweeps-requires : goal.step_by_sweeps-requires
step_by_sweeps-requires c = accepted _ (ok_zero (sym c.check.ensures ∙ c.in_default.is))
