use mathlib.Core.Path.{◌≡◌, ◌∙◌}
use native.Mathlib.Omega.{arith}
use lib.ListN.{length, take}
use borrow.Author.Rules.{rules}
use Rattle.laws.proofs.Lists.{mapped, taken_one, taken_end}
use Rattle.refusal.proofs.Calls.{ok_zero, err_some}
use Rattle.refusal.proofs.Faults.{fault_more, fault_found, fault_end}
use Rattle.mine_state.specs.State.{MAX_ENEMIES}
use Rattle.mine_state.specs.WellFormed.{creature_fault}
use Rattle.mine_check.proofs.cause.first_wrong.Goals as goal

pub returns-in_err-creature_fault : goal.returns-in_err-creature_fault
returns-in_err-creature_fault c =
    let l = c.args.enemies in
    let n = c.args.n in
    let eight : length l ≡ MAX_ENEMIES = search (rules, mapped) in
    let wrong = c.in_err-creature_fault.was in
    let out : c.from_residual.result ≡ c.creature_fault.result = search rules in
    out
    ∙ fault_found (creature_fault c.args.grid.now l) (take n l) c.loop-i.i c.loop-i.invariant
    (taken_one n l c.loop-i.i _ (omega arith) (omega arith))
    c.creature_fault.ensures (err_some wrong)

pub loop-i-preserved : goal.loop-i-preserved
loop-i-preserved c =
    let l = c.args.enemies in
    let n = c.args.n in
    let eight : length l ≡ MAX_ENEMIES = search (rules, mapped) in
    fault_more (creature_fault c.args.grid.now l) (take n l) c.loop-i.i c.loop-i.invariant
    (taken_one n l c.loop-i.i _ (omega arith) (omega arith))
    c.creature_fault.ensures (ok_zero c.in_ok-creature_fault.was)

pub returns : goal.returns
returns c =
    let l = c.args.enemies in
    fault_end (creature_fault c.args.grid.now l) (take c.args.n l) c.loop-i.i c.loop-i.invariant (taken_end c.args.n l c.loop-i.i c.loop-i-test.false)
