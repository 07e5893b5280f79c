use mathlib.Core.Path.{◌≡◌, subst}
use mathlib.Core.Bool.{Bool}
use mathlib.Core.List.{List}
use Prim.Native.Nat.{ℕ, ◌+◌, ◌-◌, ◌<◌}
use native.Mathlib.Omega.{arith}
use lib.ListN.{get_or}
use Rattle.cutter_ground.specs.Cells.{CN}
use Rattle.cutter_sweeps.specs.CodeTable.{Reached}
use Rattle.cutter_sweeps.proofs.Low.{sweeps-low}
use Rattle.cutter_sweeps.proofs.Telling.{Telling, telling_start, telling_pass, telling_again, telling_new, reached-below}
use Rattle.cutter_sweeps.proofs.numbers_left.Goals as goal

module _ {g L : List ℕ} {met : List Bool} {n i : ℕ} (t : Telling g L met n i) (h : 0 < i) where
  back : Telling g L met n (i - 1 + 1)
  back = let e : i ≡ i - 1 + 1 = omega arith in subst (Telling g L met n) e t

  below : Reached g L → get_or g (i - 1) 0 ≡ 0 → get_or L (i - 1) 0 < CN
  below r k = reached-below r (i - 1) (omega (arith, t.few)) k

pub loop-i-init : goal.loop-i-init
loop-i-init c = telling_start c.requires.cells (sweeps-low c.requires.cells c.requires.swept).len

pub bounds-met-v : goal.bounds-met-v
bounds-met-v c = below c.loop-i.invariant c.loop-i-test.true c.requires c.if-grid-i-eq-CB_BLACK.true

pub bounds-met-v-then-not-met-v : goal.bounds-met-v-then-not-met-v
bounds-met-v-then-not-met-v c = below c.loop-i.invariant c.loop-i-test.true c.requires c.if-grid-i-eq-CB_BLACK.true

pub loop-i-preserved-then-not-met-v : goal.loop-i-preserved-then-not-met-v
loop-i-preserved-then-not-met-v c =
    let t = c.loop-i.invariant in
    let h = c.loop-i-test.true in
    let k = c.if-grid-i-eq-CB_BLACK.true in
    telling_new (c.loop-i.i - 1) (back t h) k (below t h c.requires k) c.if-not-met-v.true

pub loop-i-preserved-else-not-met-v : goal.loop-i-preserved-else-not-met-v
loop-i-preserved-else-not-met-v c = telling_again (c.loop-i.i - 1) (back c.loop-i.invariant c.loop-i-test.true) c.if-grid-i-eq-CB_BLACK.true c.if-not-met-v.false

pub loop-i-preserved : goal.loop-i-preserved
loop-i-preserved c = telling_pass (c.loop-i.i - 1) (back c.loop-i.invariant c.loop-i-test.true) c.if-grid-i-eq-CB_BLACK.false
