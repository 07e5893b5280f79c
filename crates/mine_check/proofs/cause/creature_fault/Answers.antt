use mathlib.Core.Path.{sym, ◌∙◌}
use borrow.Author.Tests.{le-leb, lt-leb}
use Rattle.mine_state.specs.WellFormed.{creature_fault}
use Rattle.mine_check.proofs.cause.creature_fault.Goals as goal

pub returns-then-not-on_grid : goal.returns-then-not-on_grid
unfolding creature_fault
returns-then-not-on_grid c = simp (sym c.on_grid.ensures ∙ c.if-not-on_grid.true)

pub returns-then-not-empty_at : goal.returns-then-not-empty_at
unfolding creature_fault
returns-then-not-empty_at c =
    simp (sym c.on_grid.ensures ∙ c.if-not-on_grid.false, sym c.empty_at.ensures ∙ c.if-not-empty_at.true)

pub returns-then-e-gt3 : goal.returns-then-e-gt3
unfolding creature_fault
returns-then-e-gt3 c =
    simp (
      sym c.on_grid.ensures ∙ c.if-not-on_grid.false,
      sym c.empty_at.ensures ∙ c.if-not-empty_at.false,
      lt-leb _ _ c.if-e-gt3.true,
    )

pub returns-then-met : goal.returns-then-met
unfolding creature_fault
returns-then-met c =
    simp (
      sym c.on_grid.ensures ∙ c.if-not-on_grid.false,
      sym c.empty_at.ensures ∙ c.if-not-empty_at.false,
      le-leb _ _ c.if-e-gt3.false,
      sym c.met.ensures ∙ c.if-met.true,
    )

pub returns : goal.returns
unfolding creature_fault
returns c =
    simp (
      sym c.on_grid.ensures ∙ c.if-not-on_grid.false,
      sym c.empty_at.ensures ∙ c.if-not-empty_at.false,
      le-leb _ _ c.if-e-gt3.false,
      sym c.met.ensures ∙ c.if-met.false,
    )
