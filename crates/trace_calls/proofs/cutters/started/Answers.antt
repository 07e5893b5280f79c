use mathlib.Core.Path.{ap, ◌∙◌}
use borrow.Author.Tests.{eq-eqb, ne_eqb}
use Rattle.refusal.specs.Refusal.{NONE}
use Rattle.pace.specs.Pace as Pace
use Rattle.trace_calls.specs.Shared.{exactly, cutter_told}
use Rattle.trace_calls.specs.Cutters.{cutter_started}
use Rattle.trace_calls.proofs.cutters.started.Goals as goal

pub returns-then-args-ne-MARK : goal.returns-then-args-ne-MARK
unfolding cutter_started exactly
returns-then-args-ne-MARK c = simp (ne_eqb _ _ c.if-args-ne-MARK.true)

pub returns : goal.returns
unfolding cutter_started exactly
returns c =
    let a = c.args in
    rw (eq-eqb _ _ c.if-args-ne-MARK.false)
    (c.cutter_told.ensures ∙ ap (cutter_told a.h a.current.now a.state.now a.res.now NONE 0 a.c)
    (c.start-p.ensures ∙ ap Pace.started c.word.ensures.is))
