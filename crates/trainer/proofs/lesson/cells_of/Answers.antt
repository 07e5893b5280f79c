use borrow.Author.Tests.{eq-eqb, ne_eqb}
use mathlib.Core.Bool.{Bool}
use Prim.Native.Nat.{ℕ}
use native.Mathlib.Omega.{arith}
use lib.Dec.{eqb}
use Rattle.laws.specs.Lists.{tally}
use Rattle.laws.proofs.Lists.{drop-one, drop_end, count-hit, count-miss, count_end}
use Rattle.trainer.proofs.lesson.cells_of.Goals as goal
use Rattle.trainer.proofs.lesson.cells_of.Goals.{then-own-number, else-own-number}

pub loop-own-preserved : goal.loop-own-preserved
unfolding tally
loop-own-preserved c =
    let k = c.loop-own in
    let l = c.args.nums.now in
    let h = drop-one l k.own-index 0 (omega (arith, c.requires, c.loop-own-test.true)) in
    let f : ℕ → Bool = λ x. eqb x c.args.number in
    elim c.if-own-number.branch [
      | then-own-number w ↦ (omega (arith, w.n-is), rw w.n-is (count-hit f l k.own-index k.n h k.invariant.1 (eq-eqb _ _ w.if-own-number.true)))
      | else-own-number w ↦ (omega (arith, w.n-is), rw w.n-is (count-miss f l k.own-index k.n h k.invariant.1 (ne_eqb _ _ w.if-own-number.false)))
    ]

pub returns : goal.returns
unfolding tally
returns c =
    let k = c.loop-own in
    let l = c.args.nums.now in
    count_end (λ x. eqb x c.args.number) l k.own-index k.n (drop_end l k.own-index (omega (arith, c.requires, c.loop-own-test.false))) k.invariant.1
