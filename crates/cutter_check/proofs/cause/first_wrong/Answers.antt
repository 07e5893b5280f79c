use mathlib.Core.Path.{◌≡◌, ◌∙◌}
use native.Mathlib.Omega.{arith}
use lib.ListN.{length, take}
use borrow.Author.Rules.{rules}
use Rattle.laws.proofs.Lists.{mapped, taken_one, taken_end}
use Rattle.refusal.proofs.Calls.{ok_zero, err_some}
use Rattle.refusal.proofs.Faults.{fault_more, fault_found, fault_end}
use Rattle.cutter_ground.specs.Movers.{MAX_ENEMIES}
use Rattle.cutter_state.specs.WellFormed.{creature_fault}
use Rattle.cutter_check.proofs.cause.first_wrong.Goals as goal

pub returns-in_err-mover_fault : goal.returns-in_err-mover_fault
returns-in_err-mover_fault c =
    let l = c.args.enemies in
    let n = c.args.count in
    let full : length l ≡ MAX_ENEMIES = search (rules, mapped) in
    let wrong = c.in_err-mover_fault.was in
    let out : c.from_residual.result ≡ c.mover_fault.result = search rules in
    out
    ∙ fault_found (creature_fault c.args.grid.now) (take n l) c.loop-i.i c.loop-i.invariant
    (taken_one n l c.loop-i.i _ (omega arith) (omega arith))
    c.mover_fault.ensures (err_some wrong)

pub loop-i-preserved : goal.loop-i-preserved
loop-i-preserved c =
    let l = c.args.enemies in
    let n = c.args.count in
    let full : length l ≡ MAX_ENEMIES = search (rules, mapped) in
    fault_more (creature_fault c.args.grid.now) (take n l) c.loop-i.i c.loop-i.invariant
    (taken_one n l c.loop-i.i _ (omega arith) (omega arith))
    c.mover_fault.ensures (ok_zero c.in_ok-mover_fault.was)

pub returns : goal.returns
returns c =
    let l = c.args.enemies in
    fault_end (creature_fault c.args.grid.now) (take c.args.count l) c.loop-i.i c.loop-i.invariant (taken_end c.args.count l c.loop-i.i c.loop-i-test.false)
