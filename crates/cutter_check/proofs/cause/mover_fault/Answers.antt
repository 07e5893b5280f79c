use mathlib.Core.Path.{sym, ◌∙◌}
use Rattle.cutter_state.specs.WellFormed.{creature_fault}
use Rattle.cutter_check.proofs.cause.mover_fault.Goals as goal

pub returns-then-not-on_grid : goal.returns-then-not-on_grid
unfolding creature_fault
returns-then-not-on_grid c = simp (sym c.on_grid.ensures ∙ c.if-not-on_grid.true)

pub returns-then-not-holds : goal.returns-then-not-holds
unfolding creature_fault
returns-then-not-holds c =
    simp (sym c.on_grid.ensures ∙ c.if-not-on_grid.false, sym c.holds.ensures ∙ c.if-not-holds.true)

pub returns-then-not-velocity_ok : goal.returns-then-not-velocity_ok
unfolding creature_fault
returns-then-not-velocity_ok c =
    simp (
      sym c.on_grid.ensures ∙ c.if-not-on_grid.false,
      sym c.holds.ensures ∙ c.if-not-holds.false,
      sym c.velocity_ok.ensures ∙ c.if-not-velocity_ok.true,
    )

pub returns : goal.returns
unfolding creature_fault
returns c =
    simp (
      sym c.on_grid.ensures ∙ c.if-not-on_grid.false,
      sym c.holds.ensures ∙ c.if-not-holds.false,
      sym c.velocity_ok.ensures ∙ c.if-not-velocity_ok.false,
    )
