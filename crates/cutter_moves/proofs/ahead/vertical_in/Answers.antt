use mathlib.Core.Path.{◌≡◌, ◌∙◌}
use Prim.Native.Nat.{◌+◌, ◌-◌}
use native.Mathlib.Omega.{arith}
use borrow.Author.Tests.{lt-ltb, le-ltb}
use Rattle.cutter_ground.specs.Cells.{CW, CN, up_of, down_of}
use Rattle.cutter_state.proofs.Signs.{below}
use Rattle.cutter_moves.proofs.Along.{along-back, along-unit}
use Rattle.cutter_moves.proofs.ahead.vertical_in.Goals as goal

pub returns-then-v-lt0 : goal.returns-then-v-lt0
returns-then-v-lt0 c =
    let t = c.args.at in
    let e : t - CW ≡ up_of t = simp (le-ltb t CW c.requires.top) in
    (e ∙ along-back up_of down_of t c.args.v (below c.args.v c.ranges.v c.if-v-lt0.true), omega (arith, c.requires), omega (arith, c.requires))

pub returns-else-v-lt0 : goal.returns-else-v-lt0
returns-else-v-lt0 c =
    let t = c.args.at in
    let e : t + CW ≡ down_of t = simp (lt-ltb t (CN - CW) c.requires.bottom) in
    (e ∙ along-unit up_of down_of t c.args.v c.requires.unit (below c.args.v c.ranges.v c.if-v-lt0.false), omega (arith, c.requires), omega (arith, c.requires))
