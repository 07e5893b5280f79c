use Rattle.cutter_capture.proofs.Whole.{closed-line}
use Rattle.cutter_capture.proofs.close_cut.Goals as goal

pub returns : goal.returns
returns c = closed-line _ c.claim_line.ensures c.close_regions.ensures
