use native.Mathlib.Omega.{arith}
use Rattle.laws.proofs.Counts.{count-append, count_le}
use Rattle.mine_state.proofs.coin_count.Goals as goal

pub returns : goal.returns
returns c = grind (arith, count-append, count_le)
