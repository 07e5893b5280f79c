use mathlib.Core.Path.{◌≡◌}
use lib.ListN.{take, drop}
use Rattle.refusal.specs.Faults.{first_fault}
use Rattle.cutter_state.specs.WellFormed.{creature_fault}
use Rattle.cutter_check.proofs.cause.first_wrong.Given as goal

abbrev pub invariant-loop-i : goal.invariant-loop-i
invariant-loop-i l = first_fault (creature_fault l.grid) l.i (drop l.i (take l.count l.enemies)) ≡ first_fault (creature_fault l.grid) 0 (take l.count l.enemies)
