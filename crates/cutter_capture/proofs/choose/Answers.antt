use mathlib.Core.Path.{◌≡◌, sym, ◌∙◌}
use mathlib.Core.List.{List}
use Prim.Native.Nat.{ℕ, ◌<◌}
use native.Mathlib.Omega.{arith}
use lib.ListN.{length, get_or}
use Rattle.laws.proofs.Lists.{get_or_default}
use Rattle.cutter_ground.specs.Cells.{CN, CB_FILLED}
use Rattle.cutter_joined.specs.Joined.{Black, Right}
use Rattle.cutter_joined.proofs.Labels.{labels}
use Rattle.cutter_capture.proofs.Between.{between_start, between_passed, begins, between-ready, between_found, found_less, found_size}
use Rattle.cutter_capture.proofs.Between.{lead_order, chosen_full, chosen_end}
use Rattle.cutter_capture.proofs.choose.Goals as goal
use Rattle.cutter_capture.proofs.choose.Goals.{then-grid-start-eq-CB_BLACK+then-seen-start-eq0+else-done-limit, else-grid-start-eq-CB_BLACK}
use Rattle.cutter_capture.proofs.choose.Goals.{else-grid-start-eq-CB_BLACK-via-then-grid-start-eq-CB_BLACK+else-seen-start-eq0}
use Rattle.cutter_capture.proofs.choose.Goals.{else-grid-start-eq-CB_BLACK-via-else-grid-start-eq-CB_BLACK}
use Rattle.cutter_capture.proofs.choose.Goals.{else-loop-start-test, then-loop-start-test+then-grid-start-eq-CB_BLACK+then-seen-start-eq0+then-done-limit}

-- a cell of code 0 is black
module _ (g : List ℕ) (l : length g ≡ CN) {s : ℕ} (h : s < CN) where
  cell : get_or g s CB_FILLED ≡ get_or g s 0
  cell = get_or_default g s CB_FILLED 0 (omega arith)

  black : get_or g s 0 ≡ 0 → Black g s
  black e = cell ∙ e

-- the numbers that came in are the labelling
numbered : {g L M : List ℕ} {s : ℕ} → M ≡ L → Right g L → get_or L s CN ≡ s → Right g M × (get_or M s CN ≡ s)
numbered e r b = rw e (r, b)

pub loop-start-init : goal.loop-start-init
loop-start-init c =
    let p = c.requires in
    between_start ((labels c.args.grid.now).1 p.cells) c.args.enemies.now p.cells p.clear p.long p.some

pub find-end-requires : goal.find-end-requires
find-end-requires c =
    let h = c.loop-start-test.true in
    let r = (labels c.args.grid.now).1 c.requires.cells in
    let k = black c.args.grid.now c.requires.cells h c.if-grid-start-eq-CB_BLACK.true in
    let z = c.if-seen-start-eq0.true in
    record { ready = between-ready r c.loop-start.invariant h k z; numbered = λ l. numbered (c.requires.numbered l) r (begins r c.loop-start.invariant h k z) }

pub overflow_sub-stand : goal.overflow_sub-stand
overflow_sub-stand c =
    let h = c.loop-start-test.true in
    let k = black c.args.grid.now c.requires.cells h c.if-grid-start-eq-CB_BLACK.true in
    let z = c.if-seen-start-eq0.true in
    found_less ((labels c.args.grid.now).1 c.requires.cells) c.loop-start.invariant h k z c.if-done-limit.false _ _ _ c.find-end.ensures _ c.standing-stand.ensures

pub or-lead-requires : goal.or-lead-requires
or-lead-requires c =
    let h = c.loop-start-test.true in
    let r = (labels c.args.grid.now).1 c.requires.cells in
    let k = black c.args.grid.now c.requires.cells h c.if-grid-start-eq-CB_BLACK.true in
    let n = found_size r c.loop-start.invariant h k c.if-seen-start-eq0.true c.if-done-limit.false _ _ _ c.find-end.ensures in
    record { old = lead_order r c.loop-start.invariant; new = omega (arith, n) }

pub loop-start-preserved : goal.loop-start-preserved
loop-start-preserved c =
    let h = c.loop-start-test.true in
    let g = c.args.grid.now in
    let l = c.requires.cells in
    let r = (labels g).1 l in
    let b = c.loop-start.invariant in
    elim c.if-grid-start-eq-CB_BLACK.branch [
      | then-grid-start-eq-CB_BLACK+then-seen-start-eq0+else-done-limit w ↦ rw (w.seen-is, w.queue-is, w.lead-is, w.done-is, w.tail-is, w.stood-is)
          (between_found r b h (black g l h w.if-grid-start-eq-CB_BLACK.true) w.if-seen-start-eq0.true w.if-done-limit.false
          w.find-end.new.seen w.find-end.new.queue w.find-end.result w.find-end.ensures w.standing-stand.result w.standing-stand.ensures w.or-lead.result w.or-lead.ensures)
      | else-grid-start-eq-CB_BLACK w ↦ rw (w.seen-is, w.queue-is, w.lead-is, w.done-is, w.tail-is, w.stood-is)
          (elim w.else-grid-start-eq-CB_BLACK.branch [
            | else-grid-start-eq-CB_BLACK-via-then-grid-start-eq-CB_BLACK+else-seen-start-eq0 v ↦ between_passed r b h (λ k e. v.if-seen-start-eq0.false e)
            | else-grid-start-eq-CB_BLACK-via-else-grid-start-eq-CB_BLACK v ↦ between_passed r b h (λ k e. v.if-grid-start-eq-CB_BLACK.false (sym (cell g l h) ∙ k))
          ])
    ]

pub returns : goal.returns
returns c =
    let r = (labels c.args.grid.now).1 c.requires.cells in
    let b = c.loop-start.invariant in
    elim c.loop-start-test.branch [
      | else-loop-start-test w ↦ chosen_end r b w.loop-start-test.false
      | then-loop-start-test+then-grid-start-eq-CB_BLACK+then-seen-start-eq0+then-done-limit w ↦ chosen_full r b w.if-done-limit.true
    ]
