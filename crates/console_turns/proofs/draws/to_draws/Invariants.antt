use mathlib.Core.List.{◌++◌}
use mathlib.Core.Path.{◌≡◌}
use lib.ListN.{take, drop}
use Rattle.console_turns.specs.Turns.{draws_from}
use Rattle.console_turns.proofs.draws.to_draws.Given as goal

abbrev pub invariant-loop-i : goal.invariant-loop-i
invariant-loop-i l = take l.i l.bytes ++ draws_from l.i (drop l.i l.bytes) ≡ draws_from 0 l.initial.bytes
