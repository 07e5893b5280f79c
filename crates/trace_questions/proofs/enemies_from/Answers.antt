use borrow.Author.Rules.{rules}
use Prim.Native.Nat.{◌+◌}
use Rattle.mine_state.specs.State.{MAX_ENEMIES}
use Rattle.trace_words.proofs.Runs.{made_table}
use Rattle.trace_questions.specs.Lists.{enemy_or, enemies_from}
use Rattle.trace_questions.proofs.enemies_from.Goals as goal

pub returns : goal.returns
unfolding enemies_from
returns c = made_table _ _ (λ i. enemy_or c.args.n c.args.list.now (c.args.from + i)) (λ i y q k. search rules) c.from_fn.result MAX_ENEMIES c.from_fn.ensures.items
