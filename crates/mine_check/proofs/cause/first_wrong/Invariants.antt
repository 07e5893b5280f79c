use mathlib.Core.Path.{◌≡◌}
use lib.ListN.{take, drop}
use Rattle.refusal.specs.Faults.{first_fault}
use Rattle.mine_state.specs.WellFormed.{creature_fault}
use Rattle.mine_check.proofs.cause.first_wrong.Given as goal

abbrev pub invariant-loop-i : goal.invariant-loop-i
invariant-loop-i l = first_fault (creature_fault l.grid l.enemies) l.i (drop l.i (take l.n l.enemies)) ≡ first_fault (creature_fault l.grid l.enemies) 0 (take l.n l.enemies)
