use Rattle.cutter_rules.specs.Tick.{enemies_stepped}
use Rattle.cutter_moves.specs.CodeMoves.{tick_of}
use Rattle.cutter_moves.proofs.enemies.step_enemies.Goals as goal

pub returns : goal.returns
unfolding enemies_stepped tick_of
returns c = simp c.tick-t.ensures
