use Rattle.cutter_ground.proofs.Visits.{room-kept}
use Rattle.cutter_ground.proofs.around.Goals as goal

pub visit-tail-requires-2 : goal.visit-tail-requires-2
visit-tail-requires-2 c = room-kept c.requires c.visit-tail.ensures

pub visit-tail-requires-3 : goal.visit-tail-requires-3
visit-tail-requires-3 c = room-kept (room-kept c.requires c.visit-tail.ensures) c.visit-tail-2.ensures

pub visit-requires : goal.visit-requires
visit-requires c = room-kept (room-kept (room-kept c.requires c.visit-tail.ensures) c.visit-tail-2.ensures) c.visit-tail-3.ensures
