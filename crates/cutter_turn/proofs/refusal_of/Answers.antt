use mathlib.Core.Path.{◌∙◌, sym}
use Rattle.refusal.proofs.Calls.{ok_zero}
use Rattle.cutter_state.proofs.Facts.{accepted}
use Rattle.cutter_turn.proofs.refusal_of.Goals as goal

pub level_refusal-requires : goal.level_refusal-requires
level_refusal-requires c = (accepted c.args.c (ok_zero (sym c.check.ensures ∙ c.in_ok-check.was))).level.1
