use Rattle.std.proofs.Common.{arith}
use Rattle.console_clock.specs.Cycles.{cycles_of}
use Rattle.console_clock.proofs.cycles.Goals as goal

pub returns : goal.returns
unfolding cycles_of
returns c = omega arith
