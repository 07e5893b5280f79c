use borrow.Author.Rules.{rules}
use Prim.Native.Nat.{◌+◌, ◌*◌}
use Rattle.trace_words.proofs.Runs.{made_table}
use Rattle.cutter_ground.specs.Movers.{MAX_ENEMIES}
use Rattle.trace_states.specs.Cutters.{MOVER, mover_at, movers_at}
use Rattle.trace_states.proofs.cutters.movers_of.Goals as goal

pub returns : goal.returns
unfolding movers_at
returns c = made_table _ _ (λ i. mover_at (c.args.at + i * MOVER) c.args.bytes.now) (λ i y q k. search rules) c.from_fn.result MAX_ENEMIES c.from_fn.ensures.items
