use mathlib.Core.Path.{◌≡◌}
use Rattle.bits.specs.Bits.{number, art_bit}
use Rattle.bits.proofs.column.Given as goal

abbrev pub invariant-loop-gy : goal.invariant-loop-gy
invariant-loop-gy l = l.b ≡ number l.gy (art_bit l.fn.pat l.gx)
