use mathlib.Core.Path.{ap, ◌∙◌}
use borrow.Author.Tests.{eq-eqb, ne_eqb}
use Rattle.trace_calls.specs.Shared.{exactly}
use Rattle.trace_calls.specs.Cutters.{made, cutter_stepped}
use Rattle.trace_calls.proofs.cutters.stepped.Goals as goal

pub returns-then-args-ne0 : goal.returns-then-args-ne0
unfolding cutter_stepped exactly
returns-then-args-ne0 c = simp (ne_eqb _ _ c.if-args-ne0.true)

pub returns : goal.returns
unfolding cutter_stepped exactly
returns c =
    let a = c.args in
    rw (eq-eqb _ _ c.if-args-ne0.false)
    (c.answered_made.ensures ∙ ap (made a.h a.args.now a.current.now a.state.now a.res.now a.p) c.step_player-a.ensures)
