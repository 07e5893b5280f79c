use borrow.Author.Tests.{eq-eqb, ne_eqb}
use mathlib.Core.Bool.{Bool}
use Prim.Native.Nat.{ℕ}
use native.Mathlib.Omega.{arith}
use lib.Dec.{eqb}
use Rattle.laws.specs.Lists.{tally}
use Rattle.laws.proofs.Lists.{drop-one, drop_end, count-hit, count-miss, count_end}
use Rattle.cutter_ground.proofs.count_of.Goals as goal
use Rattle.cutter_ground.proofs.count_of.Goals.{then-code-kind, else-code-kind}

pub loop-code-preserved : goal.loop-code-preserved
unfolding tally
loop-code-preserved c =
    let k = c.loop-code in
    let l = c.args.grid.now in
    let h = drop-one l k.code-index 0 (omega (arith, c.requires, c.loop-code-test.true)) in
    let f : ℕ → Bool = λ x. eqb x c.args.kind in
    elim c.if-code-kind.branch [
      | then-code-kind w ↦ (omega (arith, w.n-is), rw w.n-is (count-hit f l k.code-index k.n h k.invariant.1 (eq-eqb _ _ w.if-code-kind.true)))
      | else-code-kind w ↦ (omega (arith, w.n-is), rw w.n-is (count-miss f l k.code-index k.n h k.invariant.1 (ne_eqb _ _ w.if-code-kind.false)))
    ]

pub returns : goal.returns
unfolding tally
returns c =
    let k = c.loop-code in
    let l = c.args.grid.now in
    count_end (λ x. eqb x c.args.kind) l k.code-index k.n (drop_end l k.code-index (omega (arith, c.requires, c.loop-code-test.false))) k.invariant.1
