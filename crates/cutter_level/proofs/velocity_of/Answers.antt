use Rattle.cutter_level.proofs.Draws.{velocity-none, velocity-some}
use Rattle.cutter_level.proofs.velocity_of.Goals as goal

pub returns-then-draw-eq0 : goal.returns-then-draw-eq0
returns-then-draw-eq0 c = velocity-none c.args.draw c.if-draw-eq0.true

pub returns-else-draw-eq0 : goal.returns-else-draw-eq0
returns-else-draw-eq0 c = velocity-some c.args.draw c.if-draw-eq0.false
