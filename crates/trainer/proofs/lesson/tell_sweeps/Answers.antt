use native.Mathlib.Omega.{arith}
use Rattle.cutter_sweeps.proofs.Sweeping.{reached_start, reached_more, reached_numbers}
use Rattle.trainer.proofs.Sweeping.{sweeps-most}
use Rattle.trainer.proofs.lesson.tell_sweeps.Goals as goal

pub loop-k-init : goal.loop-k-init
loop-k-init g c = let r = reached_start c.requires.cells c.own_numbers.ensures in (r, omega (arith, sweeps-most r.cells r.swept))

pub sweep_once-changed-requires : goal.sweep_once-changed-requires
sweep_once-changed-requires g c = reached_numbers c.loop-k.invariant.0

pub numbers_left-requires : goal.numbers_left-requires
numbers_left-requires g c = reached_more c.loop-k.invariant.0 c.sweep_once-changed.ensures

pub loop-k-preserved : goal.loop-k-preserved
loop-k-preserved g c =
    let p = c.loop-k.invariant in
    let w = c.sweep_once-changed.ensures in
    (reached_more p.0 w, omega (arith, w.falls, p.1))
