use Rattle.cutter_regions.proofs.Gathering.{gathered_sought}
use Rattle.cutter_regions.proofs.find.Goals as goal

pub returns-then-nums-eq-CN : goal.returns-then-nums-eq-CN
returns-then-nums-eq-CN c = gathered_sought c.requires c.if-nums-eq-CN.true c.gather.ensures
