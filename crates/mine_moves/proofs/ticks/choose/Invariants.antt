use mathlib.Core.Path.{◌≡◌}
use lib.ListN.{drop}
use Rattle.mine_state.specs.declared.Mine.{Mine}
use Rattle.mine_rules.specs.Tick.{turns, chosen}
use Rattle.mine_apart.specs.CodeApart.{Spotted}
use Rattle.mine_moves.proofs.ticks.choose.Given as goal

abbrev pub invariant-loop-turn : goal.invariant-loop-turn
invariant-loop-turn l = (m : Mine) → m.grid ≡ l.grid → Spotted m.enemies m.count l.spots → chosen m l.e (drop l.turn-index turns) ≡ chosen m l.e turns
