use native.Mathlib.Omega.{arith}
use Rattle.trace_words.specs.Numbers.{flat}
use Rattle.trace_words.proofs.Lays.{lays-none}
use Rattle.trace_words.proofs.Runs.{slots-more}
use Rattle.trace_states.specs.Cutters.{MOVER, mover_bytes}
use Rattle.trace_states.proofs.cutters.put_movers.Goals as goal

pub loop-i-init : goal.loop-i-init
unfolding flat
loop-i-init c = lays-none c.args.at c.args.out.now

pub loop-i-preserved : goal.loop-i-preserved
loop-i-preserved c = slots-more mover_bytes c.args.enemies c.loop-i.i MOVER _ (omega arith) c.loop-i.invariant c.put_mover.ensures
