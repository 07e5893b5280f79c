use mathlib.Core.Path.{◌≡◌, ap, ◌∙◌}
use native.Mathlib.Omega.{arith}
use Rattle.laws.proofs.Lists.{get_or_default}
use Rattle.laws.proofs.Table.{table_none, table_more, table-whole}
use Rattle.cutter_ground.specs.Cells.{CN, CB_FILLED, cell_at}
use Rattle.cutter_sweeps.specs.Sweeps.{own_of, owns}
use Rattle.cutter_sweeps.proofs.own_numbers.Goals as goal

pub loop-i-init : goal.loop-i-init
loop-i-init c = table_none _ _

pub loop-i-preserved : goal.loop-i-preserved
loop-i-preserved c =
    let g = c.args.grid.now in
    let i = c.loop-i.i in
    let h = c.loop-i-test.true in
    let e : c.own.result ≡ own_of (cell_at g i) i = c.own.ensures ∙ ap (λ x. own_of x i) (get_or_default g i 0 CB_FILLED (omega (arith, c.requires))) in
    rw (e, c.loop-i.invariant) (table_more i (λ x. own_of (cell_at g x) x) c.args.nums.now 0 (omega (arith, c.requires)))

pub returns : goal.returns
unfolding owns
returns c =
    let e : c.loop-i.i ≡ CN = omega (arith, c.loop-i-test.false, c.loop-i.auto.i-end) in
    c.loop-i.invariant ∙ rw e (table-whole CN (λ x. own_of (cell_at c.args.grid.now x) x) c.args.nums.now c.requires.len)
