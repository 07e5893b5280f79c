use mathlib.Core.Path.{ap, ◌∙◌}
use borrow.Author.Tests.{ne_eqb}
use Rattle.trace_calls.specs.Either.{on_either}
use Rattle.trace_calls.specs.Mines.{mine_call, on_mine}
use Rattle.trace_calls.proofs.Numbered.{mine_arm}
use Rattle.trace_calls.proofs.mines.on_mine.Goals as goal

pub returns-in-2 : goal.returns-in-2
unfolding mine_call
returns-in-2 c = mine_arm _ _ _ _ _ c.in-2.is c.mine_of-m.ensures c.marks_of-p.ensures c.moved.ensures

pub returns-in-3 : goal.returns-in-3
unfolding mine_call
returns-in-3 c = mine_arm _ _ _ _ _ c.in-3.is c.mine_of-m.ensures c.marks_of-p.ensures c.fallen.ensures

pub returns-in-4 : goal.returns-in-4
unfolding mine_call
returns-in-4 c = mine_arm _ _ _ _ _ c.in-4.is c.mine_of-m.ensures c.marks_of-p.ensures c.ticked.ensures

pub returns-in-5 : goal.returns-in-5
unfolding mine_call
returns-in-5 c = mine_arm _ _ _ _ _ c.in-5.is c.mine_of-m.ensures c.marks_of-p.ensures c.passed.ensures

pub returns-in-6 : goal.returns-in-6
unfolding mine_call
returns-in-6 c = mine_arm _ _ _ _ _ c.in-6.is c.mine_of-m.ensures c.marks_of-p.ensures c.pictured.ensures

pub returns-in-32 : goal.returns-in-32
unfolding mine_call
returns-in-32 c = mine_arm _ _ _ _ _ c.in-32.is c.mine_of-m.ensures c.marks_of-p.ensures c.started.ensures

pub returns-in_default : goal.returns-in_default
unfolding on_mine mine_call
returns-in_default c =
    let a = c.args in
    let n = c.in_default.in_default-own.rest in
    simp (ne_eqb _ _ n.0.0.0.0.0.1, ne_eqb _ _ n.0.0.0.0.1, ne_eqb _ _ n.0.0.0.1, ne_eqb _ _ n.0.0.1, ne_eqb _ _ n.0.1, ne_eqb _ _ n.1)
    (c.on_either.ensures ∙ ap (on_either a.h a.args.now a.current.now a.state.now a.res.now) c.marks_of-p.ensures)
