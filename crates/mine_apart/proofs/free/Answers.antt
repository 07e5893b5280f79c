use native.Mathlib.Omega.{arith}
use Rattle.found.proofs.First.{nobody-any}
use Rattle.mine_state.specs.State.{empty_at}
use Rattle.mine_apart.specs.CodeApart.{free_spot}
use Rattle.mine_apart.proofs.free.Goals as goal

pub returns-then-player-at : goal.returns-then-player-at
unfolding free_spot empty_at
returns-then-player-at c = grind (arith, nobody-any)
