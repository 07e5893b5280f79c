use lib.ListN.{length, drop}
use mathlib.Core.Path.{◌≡◌, ap, ◌∙◌}
use borrow.Author.Rules.{rules}
use Rattle.laws.proofs.Lists.{mapped}
use Rattle.refusal.proofs.Calls.{ok_zero, err_some}
use Rattle.refusal.proofs.Faults.{in_many, in_creature, in_slot}
use Rattle.cutter_ground.specs.Movers.{MAX_ENEMIES}
use Rattle.cutter_state.specs.WellFormed.{is_blank, creature_fault}
use Rattle.refusal.specs.Faults.{first_fault, spare_fault}
use Rattle.cutter_check.proofs.Blank.{blank_is}
use Rattle.cutter_check.proofs.cause.first_fault.Goals as goal

pub returns-then-count-gt-MAX_ENEMIES : goal.returns-then-count-gt-MAX_ENEMIES
returns-then-count-gt-MAX_ENEMIES c =
    in_many MAX_ENEMIES (creature_fault c.args.grid.now) is_blank c.args.enemies c.args.count c.if-count-gt-MAX_ENEMIES.true

pub returns-in_err-first_wrong : goal.returns-in_err-first_wrong
returns-in_err-first_wrong c =
    let l = c.args.enemies in
    let full : length l ≡ MAX_ENEMIES = search (rules, mapped) in
    let wrong = c.in_err-first_wrong.was in
    let out : c.from_residual.result ≡ c.first_wrong.result = search rules in
    out
    ∙ in_creature MAX_ENEMIES (creature_fault c.args.grid.now) is_blank l c.args.count full c.if-count-gt-MAX_ENEMIES.false c.first_wrong.ensures (err_some wrong)

pub returns : goal.returns
returns c =
    let l = c.args.enemies in
    let full : length l ≡ MAX_ENEMIES = search (rules, mapped) in
    in_slot MAX_ENEMIES (creature_fault c.args.grid.now) is_blank l c.args.count full c.if-count-gt-MAX_ENEMIES.false c.first_wrong.ensures
    (ok_zero c.in_ok-first_wrong.was) (c.first_spare.ensures ∙ ap (λ blank. first_fault (spare_fault blank) c.args.count (drop c.args.count l)) blank_is)
