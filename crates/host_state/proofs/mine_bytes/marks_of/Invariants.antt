use mathlib.Core.List.{map}
use mathlib.Core.Path.{◌≡◌}
use lib.ListN.{length, take}
use Rattle.mine_state.specs.State.{AREA}
use Rattle.host_state.specs.Flags.{flag_of}
use Rattle.host_state.proofs.mine_bytes.marks_of.Given as goal

abbrev pub invariant-loop-i : goal.invariant-loop-i
invariant-loop-i l = (length l.out ≡ AREA) × (take l.i l.out ≡ take l.i (map flag_of l.bytes))
