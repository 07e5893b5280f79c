use mathlib.Core.Path.{ap, ◌∙◌}
use borrow.Author.Tests.{eq-eqb, ne_eqb}
use Rattle.trace_calls.specs.Shared.{exactly}
use Rattle.trace_calls.specs.Cutters.{answered, cutter_directed}
use Rattle.trace_calls.proofs.cutters.directed.Goals as goal

pub returns-then-args-ne1 : goal.returns-then-args-ne1
unfolding cutter_directed exactly
returns-then-args-ne1 c = simp (ne_eqb _ _ c.if-args-ne1.true)

pub returns : goal.returns
unfolding cutter_directed exactly
returns c =
    let a = c.args in
    rw (eq-eqb _ _ c.if-args-ne1.false)
    (c.cutter_answered.ensures ∙ ap (answered a.h a.args.now a.current.now a.state.now a.res.now a.p) c.direction-a.ensures)
