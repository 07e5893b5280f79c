use Prim.Native.Nat.{◌*◌}
use lib.ListN.{take}
use Rattle.trace_words.specs.Numbers.{flat}
use Rattle.trace_words.specs.CodeLays.{Lays}
use Rattle.trace_states.specs.Cutters.{MOVER, mover_bytes}
use Rattle.trace_states.proofs.cutters.put_movers.Given as goal

abbrev pub invariant-loop-i : goal.invariant-loop-i
invariant-loop-i l = Lays (flat mover_bytes (take l.i l.e-items)) (l.i * MOVER) l.at l.initial.out l.out
