use mathlib.Core.List.{List}
use mathlib.Core.Path.{◌≡◌, sym, ◌∙◌}
use Prim.Native.Nat.{ℕ, ◌<◌}
use native.Mathlib.Omega.{arith}
use lib.ListN.{length, get_or}
use Rattle.laws.proofs.Lists.{get_or_default}
use Rattle.cutter_ground.specs.Cells.{CN}
use Rattle.cutter_regions.specs.CodeGathering.{Bare}
use Rattle.cutter_regions.proofs.Gathering.{gathered_pass, gathered_hit, gathered_room}
use Rattle.cutter_regions.proofs.gather.Goals as goal
use Rattle.cutter_regions.proofs.gather.Goals.{else-of-number, then-of-number}

module _ {L seen₀ q₀ : List ℕ} {n s : ℕ} (b : Bare L seen₀ q₀ n s) {c : ℕ} (h : c < length L) where
  inn : c < CN
  inn = omega (arith, h, b.nums)

  -- the number of a cell, by the other default
  number : get_or L c CN ≡ get_or L c 0
  number = get_or_default L c CN 0 h

pub bounds-queue-tail : goal.bounds-queue-tail
bounds-queue-tail c =
    let h = c.loop-c-test.true in
    gathered_room c.requires c.loop-c.invariant (inn c.requires h) (number c.requires h ∙ c.if-of-number.true)

pub loop-c-preserved : goal.loop-c-preserved
loop-c-preserved c =
    let h = c.loop-c-test.true in
    let e = number c.requires h in
    elim c.if-of-number.branch [
      | then-of-number w ↦ rw (w.seen-is, w.queue-is, w.tail-is) (gathered_hit c.requires c.loop-c.invariant (inn c.requires h) (e ∙ w.if-of-number.true))
      | else-of-number w ↦ rw (w.seen-is, w.queue-is, w.tail-is) (gathered_pass c.requires c.loop-c.invariant (inn c.requires h) (λ z. w.if-of-number.false (sym e ∙ z)))
    ]
