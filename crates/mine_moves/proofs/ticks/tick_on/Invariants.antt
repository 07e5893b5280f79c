use Rattle.mine_rules.specs.Tick.{enemies_moved}
use Rattle.mine_apart.specs.CodeApart.{joined, standing}
use Rattle.mine_moves.proofs.Turns.{Between}
use Rattle.mine_moves.proofs.ticks.tick_on.Given as goal

abbrev pub invariant-loop-k : goal.invariant-loop-k
invariant-loop-k l =
    Between l.grid l.count l.px l.py (λ m. enemies_moved (standing m l.grid (joined l.count l.initial.spots l.initial.dirs) l.count l.px l.py)) l.spots l.dirs l.caught l.k
