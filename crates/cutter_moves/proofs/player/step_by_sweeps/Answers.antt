use Rattle.cutter_moves.proofs.Stepping.{sweeps-make}
use Rattle.cutter_moves.proofs.player.step_by_sweeps.Goals as goal

pub returns : goal.returns
returns c =
    let t = c.step_in-walked.result in
    sweeps-make c.args.c c.requires.cells c.step_in-walked.new.game t.searched t.walked c.step_in-walked.ensures
