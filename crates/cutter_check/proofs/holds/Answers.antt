use Prim.Native.Nat.{◌<◌}
use native.Mathlib.Omega.{arith}
use lib.ListN.{length}
use borrow.Author.Tests.{lt-ltb, le-ltb}
use Rattle.laws.proofs.Lists.{get_or_default}
use Rattle.cutter_state.specs.State.{holds_at}
use Rattle.cutter_ground.specs.Cells.{place}
use Rattle.cutter_check.proofs.holds.Goals as goal

pub returns-then-x-ge-CW : goal.returns-then-x-ge-CW
unfolding holds_at
returns-then-x-ge-CW c = simp (le-ltb _ _ c.if-x-ge-CW.true)

pub returns-then-y-ge-CH : goal.returns-then-y-ge-CH
unfolding holds_at
returns-then-y-ge-CH c = simp (lt-ltb _ _ c.if-x-ge-CW.false, le-ltb _ _ c.if-y-ge-CH.true)

pub returns : goal.returns
unfolding holds_at
returns c =
    let g = c.args.grid.now in
    let i = place c.args.x c.args.y in
    let b : i < length g = omega (arith, c.requires, c.if-x-ge-CW, c.if-y-ge-CH) in
    simp (lt-ltb _ _ c.if-x-ge-CW.false, lt-ltb _ _ c.if-y-ge-CH.false, get_or_default g i 1 0 b)
