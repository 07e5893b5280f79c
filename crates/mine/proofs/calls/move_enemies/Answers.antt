use mathlib.Core.Path.{◌∙◌, sym}
use Rattle.refusal.proofs.Calls.{ok_zero}
use Rattle.mine_state.proofs.Facts.{accepted}
use Rattle.mine.proofs.calls.move_enemies.Goals as goal

pub move_enemies-requires : goal.move_enemies-requires
move_enemies-requires c = accepted _ (ok_zero (sym c.check.ensures ∙ c.in-Ok.is))
