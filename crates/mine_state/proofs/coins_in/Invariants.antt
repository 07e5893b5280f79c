use mathlib.Core.Path.{◌≡◌}
use Prim.Native.Nat.{◌≤◌}
use lib.ListN.{take}
use Rattle.laws.specs.Lists.{count}
use Rattle.mine_state.specs.State.{is_coin}
use Rattle.mine_state.proofs.coins_in.Given as goal

abbrev pub invariant-loop-code : goal.invariant-loop-code
invariant-loop-code l = (l.n ≤ l.code-index) × (l.n ≡ count is_coin (take l.code-index l.half))
