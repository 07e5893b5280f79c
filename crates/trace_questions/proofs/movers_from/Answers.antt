use borrow.Author.Rules.{rules}
use Prim.Native.Nat.{◌+◌}
use Rattle.cutter_ground.specs.Movers.{MAX_ENEMIES}
use Rattle.trace_words.proofs.Runs.{made_table}
use Rattle.trace_questions.specs.Lists.{mover_or, movers_from}
use Rattle.trace_questions.proofs.movers_from.Goals as goal

pub returns : goal.returns
unfolding movers_from
returns c = made_table _ _ (λ i. mover_or c.args.n c.args.list.now (c.args.from + i)) (λ i y q k. search rules) c.from_fn.result MAX_ENEMIES c.from_fn.ensures.items
