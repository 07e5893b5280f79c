use mathlib.Core.List.{map}
use lib.ListN.{take}
use Rattle.laws.specs.Lists.{bit}
use Rattle.trace_words.specs.CodeLays.{Lays}
use Rattle.trace_states.proofs.mines.put_falling.Given as goal

abbrev pub invariant-loop-i : goal.invariant-loop-i
invariant-loop-i l = Lays (map bit (take l.i l.falls-items)) l.i l.at l.initial.out l.out
