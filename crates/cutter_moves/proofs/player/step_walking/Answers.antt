use mathlib.Core.Path.{refl, sym, ◌∙◌}
use borrow.Author.Tests.{eq-eqb, ne_eqb}
use Rattle.cutter_rules.specs.Step.{walking_step}
use Rattle.cutter_moves.proofs.Applied.{open_tells, went, turned, began, code, beside}
use Rattle.cutter_moves.proofs.player.step_walking.Goals as goal

pub returns-then-on_border : goal.returns-then-on_border
unfolding walking_step
returns-then-on_border c =
    rw c.entered.ensures (
      λ m p. open_tells p refl refl (went p c.args.at ∙ simp (
        eq-eqb _ _ (code p c.args.at ∙ sym c.cell.ensures ∙ c.if-cell-eq-CB_FILLED.true),
        beside p c.args.at ∙ sym c.on_border.ensures ∙ c.if-on_border.true,
      )),
      c.requires.here,
    )

pub returns-then-cell-eq-CB_FILLED : goal.returns-then-cell-eq-CB_FILLED
unfolding walking_step
returns-then-cell-eq-CB_FILLED c =
    rw c.stopped.ensures (
      λ m p. open_tells p refl refl (turned p ∙ simp (
        eq-eqb _ _ (code p c.args.at ∙ sym c.cell.ensures ∙ c.if-cell-eq-CB_FILLED.true),
        beside p c.args.at ∙ sym c.on_border.ensures ∙ c.if-on_border.false,
      )),
      c.requires.here,
    )

pub returns : goal.returns
unfolding walking_step
returns c =
    let free = c.if-cell-eq-CB_FILLED.false in
    simp c.laid-to.ensures
    (λ m p. open_tells p refl refl (began p c.args.at ∙ simp (ne_eqb _ _ (λ q. free (c.cell.ensures ∙ sym (code p c.args.at) ∙ q)))), c.requires.there)
