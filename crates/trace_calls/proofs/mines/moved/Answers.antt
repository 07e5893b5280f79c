use mathlib.Core.Path.{ap, ◌∙◌}
use borrow.Author.Tests.{eq-eqb, ne_eqb}
use Rattle.trace_calls.specs.Shared.{exactly}
use Rattle.trace_calls.specs.Mines.{answered, mine_moved}
use Rattle.trace_calls.proofs.mines.moved.Goals as goal

pub returns-then-args-ne1 : goal.returns-then-args-ne1
unfolding mine_moved exactly
returns-then-args-ne1 c = simp (ne_eqb _ _ c.if-args-ne1.true)

pub returns : goal.returns
unfolding mine_moved exactly
returns c =
    let a = c.args in
    rw (eq-eqb _ _ c.if-args-ne1.false)
    (c.mine_answered.ensures ∙ ap (answered a.h a.args.now a.current.now a.state.now a.res.now a.p) c.step_player-a.ensures)
