use Rattle.cutter_state.proofs.Signs.{below}
use Rattle.cutter_moves.proofs.Along.{flip_back, flip_on}
use Rattle.cutter_moves.proofs.enemies.flip.Goals as goal

pub returns-then-v-lt0 : goal.returns-then-v-lt0
returns-then-v-lt0 c = flip_back c.args.v (below c.args.v c.ranges.v c.if-v-lt0.true)

pub returns-else-v-lt0 : goal.returns-else-v-lt0
returns-else-v-lt0 c = flip_on c.args.v (below c.args.v c.ranges.v c.if-v-lt0.false)
