use borrow.Author.Rules.{rules}
use Prim.Native.Nat.{◌+◌}
use Rattle.mine_state.specs.State.{AREA}
use Rattle.trace_words.specs.Numbers.{flag_at}
use Rattle.trace_words.proofs.Runs.{made_table}
use Rattle.trace_states.specs.Mines.{falling_at}
use Rattle.trace_states.proofs.mines.falling_of.Goals as goal

pub returns : goal.returns
unfolding falling_at
returns c = made_table _ _ (λ i. flag_at (c.args.at + i) c.args.bytes.now) (λ i y q k. search rules) c.from_fn.result AREA c.from_fn.ensures.items
