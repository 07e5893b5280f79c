use mathlib.Core.Path.{refl}
use Rattle.cutter_state.specs.WellFormed.{numbers_ok}
use Rattle.cutter_check.proofs.numbers_ok.Goals as goal

pub returns : goal.returns
unfolding numbers_ok
returns c = refl
