use mathlib.Core.Path.{ap, ◌∙◌}
use borrow.Author.Tests.{eq-eqb, ne_eqb}
use Rattle.refusal.specs.Refusal.{NONE}
use Rattle.pace.specs.Pace as Pace
use Rattle.trace_calls.specs.Shared.{exactly, mine_told}
use Rattle.trace_calls.specs.Mines.{mine_started}
use Rattle.trace_calls.proofs.mines.started.Goals as goal

pub returns-then-args-ne-MARK : goal.returns-then-args-ne-MARK
unfolding mine_started exactly
returns-then-args-ne-MARK c = simp (ne_eqb _ _ c.if-args-ne-MARK.true)

pub returns : goal.returns
unfolding mine_started exactly
returns c =
    let a = c.args in
    rw (eq-eqb _ _ c.if-args-ne-MARK.false)
    (c.mine_told.ensures ∙ ap (mine_told a.h a.current.now a.state.now a.res.now NONE 0 a.m)
    (c.start-p.ensures ∙ ap Pace.started c.word.ensures.is))
