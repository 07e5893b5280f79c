use mathlib.Core.Path.{ap, ◌∙◌}
use borrow.Author.Tests.{eq-eqb, ne_eqb}
use Rattle.trace_calls.specs.Shared.{exactly}
use Rattle.trace_calls.specs.Cutters.{answered, cutter_ticked}
use Rattle.trace_calls.proofs.cutters.ticked.Goals as goal

pub returns-then-args-ne0 : goal.returns-then-args-ne0
unfolding cutter_ticked exactly
returns-then-args-ne0 c = simp (ne_eqb _ _ c.if-args-ne0.true)

pub returns : goal.returns
unfolding cutter_ticked exactly
returns c =
    let a = c.args in
    rw (eq-eqb _ _ c.if-args-ne0.false)
    (c.cutter_answered.ensures ∙ ap (answered a.h a.args.now a.current.now a.state.now a.res.now a.p) c.step_enemies-a.ensures)
