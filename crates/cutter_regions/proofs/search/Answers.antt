use native.Mathlib.Omega.{arith}
use Rattle.cutter_regions.proofs.Seeking.{ready-room, undo, search_start, search_turn, search_end, search_again, search_back}
use Rattle.cutter_regions.proofs.search.Goals as goal

pub bounds-queue-from : goal.bounds-queue-from
bounds-queue-from c = omega (arith, ready-room c.requires, c.requires.long)

pub loop-head-init : goal.loop-head-init
loop-head-init c = rw (undo c.requires) (search_again (search_start c.requires))

-- the invariant at the tables that came in, and back
pub loop-head-preserved : goal.loop-head-preserved
loop-head-preserved c =
    let i = search_back (rw (undo c.requires) at c.loop-head.invariant) in
    rw (undo c.requires) (search_again (search_turn c.requires i c.loop-head-test.true c.around-tail.ensures))

pub returns : goal.returns
returns c = search_end c.requires (search_back (rw (undo c.requires) at c.loop-head.invariant)) c.loop-head-test.false
