use mathlib.Core.Path.{◌∙◌}
use Rattle.cutter_ground.specs.Cells.{up_of, down_of}
use Rattle.cutter_state.proofs.Signs.{below, above}
use Rattle.cutter_moves.proofs.Along.{along-back, along_on, along-none}
use Rattle.cutter_moves.proofs.ahead.vertical_of.Goals as goal

pub returns-then-v-lt0 : goal.returns-then-v-lt0
returns-then-v-lt0 c =
    c.up_of.ensures ∙ along-back up_of down_of c.args.at c.args.v (below c.args.v c.ranges.v c.if-v-lt0.true)

pub returns-then-v-gt0 : goal.returns-then-v-gt0
returns-then-v-gt0 c =
    c.down_of.ensures ∙ along_on up_of down_of c.args.at c.args.v (above c.args.v c.ranges.v c.if-v-gt0.true)

pub returns : goal.returns
returns c =
    along-none up_of down_of c.args.at c.args.v (below c.args.v c.ranges.v c.if-v-lt0.false) (above c.args.v c.ranges.v c.if-v-gt0.false)
