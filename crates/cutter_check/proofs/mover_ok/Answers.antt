use mathlib.Core.Bool.{and_assoc}
use Rattle.cutter_state.specs.WellFormed.{mover_ok}
use Rattle.cutter_check.proofs.mover_ok.Goals as goal

pub returns : goal.returns
unfolding mover_ok
returns c = simp (c.holds.ensures, c.velocity_ok.ensures, and_assoc)
