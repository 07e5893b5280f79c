use Rattle.cutter_turn.proofs.Keys.{Left}
use Rattle.cutter_turn.proofs.play.Given as goal

abbrev pub invariant-loop-key : goal.invariant-loop-key
invariant-loop-key l = Left l.keys l.dir l.key-index
