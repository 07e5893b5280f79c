use native.Mathlib.Omega.{arith}
use Rattle.cutter_joined.proofs.Labels.{labels}
use Rattle.cutter_capture.proofs.Whole.{taken_le, steps-closed}
use Rattle.cutter_capture.proofs.close_regions.Goals as goal

pub overflow_cast-result : goal.overflow_cast-result
overflow_cast-result c =
    omega (arith, taken_le ((labels c.args.grid.now).1 c.requires.0.cells) c.choose-best.ensures)

pub returns : goal.returns
returns c =
    let l = c.requires.0.cells in
    record {
      cut = steps-closed ((labels c.args.grid.now).1 l) c.choose-best.ensures c.mark.ensures l c.claim_rest.new.grid c.retain-count.result c.mark-2.result
          c.claim_rest.ensures c.mark-2.ensures c.retain-count.ensures;
      cost = c.choose-best.ensures.account;
    }
