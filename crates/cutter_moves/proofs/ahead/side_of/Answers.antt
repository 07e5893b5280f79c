use mathlib.Core.Path.{◌∙◌}
use Rattle.cutter_ground.specs.Cells.{left_of, right_of}
use Rattle.cutter_state.proofs.Signs.{below, above}
use Rattle.cutter_moves.proofs.Along.{along-back, along_on, along-none}
use Rattle.cutter_moves.proofs.ahead.side_of.Goals as goal

pub returns-then-v-lt0 : goal.returns-then-v-lt0
returns-then-v-lt0 c =
    c.left_of.ensures ∙ along-back left_of right_of c.args.at c.args.v (below c.args.v c.ranges.v c.if-v-lt0.true)

pub returns-then-v-gt0 : goal.returns-then-v-gt0
returns-then-v-gt0 c =
    c.right_of.ensures ∙ along_on left_of right_of c.args.at c.args.v (above c.args.v c.ranges.v c.if-v-gt0.true)

pub returns : goal.returns
returns c =
    along-none left_of right_of c.args.at c.args.v (below c.args.v c.ranges.v c.if-v-lt0.false) (above c.args.v c.ranges.v c.if-v-gt0.false)
