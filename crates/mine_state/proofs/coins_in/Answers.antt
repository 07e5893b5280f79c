use native.Mathlib.Omega.{arith}
use lib.ListN.{get_or}
use Rattle.mine_state.specs.State.{is_coin}
use Rattle.mine_state.proofs.Coins.{flag_small, coins-more}
use Rattle.mine_state.proofs.coins_in.Goals as goal

pub loop-code-preserved : goal.loop-code-preserved
loop-code-preserved c =
    let k = c.loop-code in
    let half = c.args.half.now in
    (omega (arith, k.invariant.0, flag_small (is_coin (get_or half k.code-index 0))), coins-more half k.code-index k.n k.invariant.1 c.loop-code-test.true)
