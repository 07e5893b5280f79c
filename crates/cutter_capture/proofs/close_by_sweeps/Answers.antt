use Rattle.cutter_sweeps.proofs.Low.{settled_labels}
use Rattle.cutter_capture.proofs.Whole.{line-closes, closed-line}
use Rattle.cutter_capture.proofs.close_by_sweeps.Goals as goal

pub close_regions-requires : goal.close_regions-requires
close_regions-requires c =
    let l = line-closes _ c.claim_line.ensures c.requires in
    (l, λ _. settled_labels l.cells c.settle.ensures)

pub returns : goal.returns
returns c = closed-line _ c.claim_line.ensures c.close_regions.ensures
