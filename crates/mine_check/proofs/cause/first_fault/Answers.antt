use lib.ListN.{length, drop}
use mathlib.Core.Path.{◌≡◌, ap, ◌∙◌}
use borrow.Author.Rules.{rules}
use Rattle.laws.proofs.Lists.{mapped}
use Rattle.refusal.proofs.Calls.{ok_zero, err_some}
use Rattle.refusal.proofs.Faults.{in_many, in_creature, in_slot}
use Rattle.mine_state.specs.State.{MAX_ENEMIES}
use Rattle.mine_state.specs.WellFormed.{is_blank, creature_fault}
use Rattle.refusal.specs.Faults.{first_fault, spare_fault}
use Rattle.mine_check.proofs.Creatures.{blank_is}
use Rattle.mine_check.proofs.cause.first_fault.Goals as goal

pub returns-then-n-gt-MAX_ENEMIES : goal.returns-then-n-gt-MAX_ENEMIES
returns-then-n-gt-MAX_ENEMIES c =
    in_many MAX_ENEMIES (creature_fault c.args.grid.now c.args.enemies) is_blank c.args.enemies c.args.n c.if-n-gt-MAX_ENEMIES.true

pub returns-in_err-first_wrong : goal.returns-in_err-first_wrong
returns-in_err-first_wrong c =
    let l = c.args.enemies in
    let eight : length l ≡ MAX_ENEMIES = search (rules, mapped) in
    let wrong = c.in_err-first_wrong.was in
    let out : c.from_residual.result ≡ c.first_wrong.result = search rules in
    out
    ∙ in_creature MAX_ENEMIES (creature_fault c.args.grid.now l) is_blank l c.args.n eight c.if-n-gt-MAX_ENEMIES.false c.first_wrong.ensures (err_some wrong)

pub returns : goal.returns
returns c =
    let l = c.args.enemies in
    let eight : length l ≡ MAX_ENEMIES = search (rules, mapped) in
    in_slot MAX_ENEMIES (creature_fault c.args.grid.now l) is_blank l c.args.n eight c.if-n-gt-MAX_ENEMIES.false c.first_wrong.ensures
    (ok_zero c.in_ok-first_wrong.was) (c.first_spare.ensures ∙ ap (λ blank. first_fault (spare_fault blank) c.args.n (drop c.args.n l)) blank_is)
