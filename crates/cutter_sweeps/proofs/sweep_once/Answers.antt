use mathlib.Core.Path.{◌≡◌, sym, ◌∙◌}
use native.Mathlib.Omega.{arith}
use lib.ListN.{get_or}
use Rattle.laws.proofs.Lists.{get_or_default}
use Rattle.cutter_ground.specs.Cells.{CN, CB_FILLED}
use Rattle.cutter_sweeps.proofs.Sweeping.{sweeping_start, sweeping_lower, sweeping_kept}
use Rattle.cutter_sweeps.proofs.sweep_once.Goals as goal
use Rattle.cutter_sweeps.proofs.sweep_once.Goals.{else-grid-at-eq-CB_BLACK, then-grid-at-eq-CB_BLACK+then-v-nums, then-grid-at-eq-CB_BLACK+else-v-nums}

pub loop-at-init : goal.loop-at-init
loop-at-init c = sweeping_start c.requires

pub loop-at-preserved : goal.loop-at-preserved
loop-at-preserved c =
    let g = c.args.grid.now in
    let L = c.loop-at.nums in
    let i = c.loop-at.at in
    let s = c.loop-at.invariant in
    let h = c.loop-at-test.true in
    let at : get_or L i 0 ≡ get_or L i CN = get_or_default L i 0 CN (omega (arith, s.len)) in
    let gat : get_or g i CB_FILLED ≡ get_or g i 0 = get_or_default g i CB_FILLED 0 (omega (arith, c.requires)) in
    elim c.if-grid-at-eq-CB_BLACK.branch [
      | then-grid-at-eq-CB_BLACK+then-v-nums w ↦ rw (w.nums-is, w.changed-is, w.lowest-v.ensures) (sweeping_lower s h (gat ∙ w.if-grid-at-eq-CB_BLACK.true) (omega (arith, w.if-v-nums.true, w.lowest-v.ensures, at)))
      | then-grid-at-eq-CB_BLACK+else-v-nums w ↦ rw (w.nums-is, w.changed-is) (sweeping_kept s h (λ k. omega (arith, w.if-v-nums.false, w.lowest-v.ensures, at)))
      | else-grid-at-eq-CB_BLACK w ↦ rw (w.nums-is, w.changed-is) (sweeping_kept s h (λ k. absurd (w.if-grid-at-eq-CB_BLACK.false (sym gat ∙ k))))
    ]
