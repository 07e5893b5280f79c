use mathlib.Core.Path.{◌≡◌, refl}
use Prim.Native.Nat.{◌<◌}
use native.Mathlib.Omega.{arith}
use lib.ListN.{length}
use Rattle.console_turns.proofs.Drawn.{limit_positive, draws_more, draws_end}
use Rattle.console_turns.proofs.draws.to_draws.Goals as goal

pub nonzero_rem-byte : goal.nonzero_rem-byte
nonzero_rem-byte c = rw c.limit.ensures (limit_positive _)

pub loop-i-preserved : goal.loop-i-preserved
loop-i-preserved c =
    let s = c.loop-i in
    let h : s.i < length s.bytes = omega (arith, s.auto.bytes) in
    rw c.limit.ensures (draws_more s.bytes s.i h s.invariant)

pub returns : goal.returns
returns c =
    let s = c.loop-i in
    let e : s.i ≡ length s.bytes = omega (arith, s.auto.bytes, s.auto.i-end) in
    draws_end s.bytes _ refl (rw e at s.invariant)
