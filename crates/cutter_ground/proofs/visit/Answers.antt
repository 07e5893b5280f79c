use Rattle.cutter_ground.proofs.Visits.{room-left}
use Rattle.cutter_ground.proofs.visit.Goals as goal

pub bounds-queue-tail : goal.bounds-queue-tail
bounds-queue-tail c = room-left c.requires c.if-at-lt-CN.true c.if-seen-at-eq0.true
