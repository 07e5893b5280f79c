use mathlib.Core.Path.{refl}
use native.Mathlib.Omega.{arith}
use Rattle.bits.specs.Bits.{number, art_bit}
use Rattle.bits.proofs.Number.{number_more, masked}
use Rattle.bits.proofs.column.Goals as goal

pub loop-gy-init : goal.loop-gy-init
unfolding number
loop-gy-init c = refl

pub loop-gy-preserved : goal.loop-gy-preserved
loop-gy-preserved c =
    rw (c.loop-gy.invariant, masked) (number_more c.loop-gy.gy (art_bit c.args.pat c.args.gx) (omega arith))
