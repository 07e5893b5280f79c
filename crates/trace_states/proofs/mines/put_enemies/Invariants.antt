use Prim.Native.Nat.{◌*◌}
use lib.ListN.{take}
use Rattle.trace_words.specs.Numbers.{flat}
use Rattle.trace_words.specs.CodeLays.{Lays}
use Rattle.trace_states.specs.Mines.{ENEMY, enemy_bytes}
use Rattle.trace_states.proofs.mines.put_enemies.Given as goal

abbrev pub invariant-loop-i : goal.invariant-loop-i
invariant-loop-i l = Lays (flat enemy_bytes (take l.i l.e-items)) (l.i * ENEMY) l.at l.initial.out l.out
