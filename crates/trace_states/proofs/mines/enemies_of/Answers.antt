use borrow.Author.Rules.{rules}
use Prim.Native.Nat.{◌+◌, ◌*◌}
use Rattle.trace_words.proofs.Runs.{made_table}
use Rattle.mine_state.specs.State.{MAX_ENEMIES}
use Rattle.trace_states.specs.Mines.{ENEMY, enemy_at, enemies_at}
use Rattle.trace_states.proofs.mines.enemies_of.Goals as goal

pub returns : goal.returns
unfolding enemies_at
returns c = made_table _ _ (λ i. enemy_at (c.args.at + i * ENEMY) c.args.bytes.now) (λ i y q k. search rules) c.from_fn.result MAX_ENEMIES c.from_fn.ensures.items
