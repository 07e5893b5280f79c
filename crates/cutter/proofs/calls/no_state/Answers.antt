use mathlib.Core.Path.{refl}
use Rattle.cutter.specs.Calls.{zeros}
use Rattle.cutter.proofs.calls.no_state.Goals as goal

pub returns : goal.returns
unfolding zeros
returns c = refl
