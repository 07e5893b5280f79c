use mathlib.Core.Path.{◌≡◌, ◌∙◌}
use Prim.Native.Nat.{◌+◌, ◌-◌, ◌%◌}
use native.Mathlib.Omega.{arith}
use borrow.Author.Tests.{lt-ltb}
use Rattle.cutter_ground.specs.Cells.{CW, left_of, right_of}
use Rattle.cutter_state.proofs.Signs.{below}
use Rattle.cutter_moves.proofs.Along.{along-back, along-unit}
use Rattle.cutter_moves.proofs.ahead.side_in.Goals as goal

pub returns-then-v-lt0 : goal.returns-then-v-lt0
returns-then-v-lt0 c =
    let t = c.args.at in
    let e : t - 1 ≡ left_of t = simp (lt-ltb 0 (t % CW) c.requires.left) in
    (e ∙ along-back left_of right_of t c.args.v (below c.args.v c.ranges.v c.if-v-lt0.true), omega (arith, c.requires))

pub returns-else-v-lt0 : goal.returns-else-v-lt0
returns-else-v-lt0 c =
    let t = c.args.at in
    let e : t + 1 ≡ right_of t = simp (lt-ltb (t % CW) (CW - 1) c.requires.right) in
    (e ∙ along-unit left_of right_of t c.args.v c.requires.unit (below c.args.v c.ranges.v c.if-v-lt0.false), omega (arith, c.requires))
