use mathlib.Core.Path.{ap, ◌∙◌}
use borrow.Author.Tests.{ne_eqb}
use Rattle.trace_calls.specs.Either.{on_either}
use Rattle.trace_calls.specs.Cutters.{cutter_call, on_cutter}
use Rattle.trace_calls.proofs.Numbered.{cutter_arm}
use Rattle.trace_calls.proofs.cutters.on_cutter.Goals as goal

pub returns-in-18 : goal.returns-in-18
unfolding cutter_call
returns-in-18 c = cutter_arm _ _ _ _ _ c.in-18.is c.cutter_of-c.ensures c.marks_of-p.ensures c.directed.ensures

pub returns-in-19 : goal.returns-in-19
unfolding cutter_call
returns-in-19 c = cutter_arm _ _ _ _ _ c.in-19.is c.cutter_of-c.ensures c.marks_of-p.ensures c.stepped.ensures

pub returns-in-20 : goal.returns-in-20
unfolding cutter_call
returns-in-20 c = cutter_arm _ _ _ _ _ c.in-20.is c.cutter_of-c.ensures c.marks_of-p.ensures c.ticked.ensures

pub returns-in-21 : goal.returns-in-21
unfolding cutter_call
returns-in-21 c = cutter_arm _ _ _ _ _ c.in-21.is c.cutter_of-c.ensures c.marks_of-p.ensures c.respawned.ensures

pub returns-in-22 : goal.returns-in-22
unfolding cutter_call
returns-in-22 c = cutter_arm _ _ _ _ _ c.in-22.is c.cutter_of-c.ensures c.marks_of-p.ensures c.levelled.ensures

pub returns-in-23 : goal.returns-in-23
unfolding cutter_call
returns-in-23 c = cutter_arm _ _ _ _ _ c.in-23.is c.cutter_of-c.ensures c.marks_of-p.ensures c.passed.ensures

pub returns-in-24 : goal.returns-in-24
unfolding cutter_call
returns-in-24 c = cutter_arm _ _ _ _ _ c.in-24.is c.cutter_of-c.ensures c.marks_of-p.ensures c.pictured.ensures

pub returns-in-25 : goal.returns-in-25
unfolding cutter_call
returns-in-25 c = cutter_arm _ _ _ _ _ c.in-25.is c.cutter_of-c.ensures c.marks_of-p.ensures c.reported.ensures

pub returns-in-29 : goal.returns-in-29
unfolding cutter_call
returns-in-29 c = cutter_arm _ _ _ _ _ c.in-29.is c.cutter_of-c.ensures c.marks_of-p.ensures c.swept.ensures

pub returns-in-32 : goal.returns-in-32
unfolding cutter_call
returns-in-32 c = cutter_arm _ _ _ _ _ c.in-32.is c.cutter_of-c.ensures c.marks_of-p.ensures c.started.ensures

pub returns-in_default : goal.returns-in_default
unfolding on_cutter cutter_call
returns-in_default c =
    let a = c.args in
    let n = c.in_default.in_default-own.rest in
    simp (
      ne_eqb _ _ n.0.0.0.0.0.0.0.0.0.1,
      ne_eqb _ _ n.0.0.0.0.0.0.0.0.1,
      ne_eqb _ _ n.0.0.0.0.0.0.0.1,
      ne_eqb _ _ n.0.0.0.0.0.0.1,
      ne_eqb _ _ n.0.0.0.0.0.1,
      ne_eqb _ _ n.0.0.0.0.1,
      ne_eqb _ _ n.0.0.0.1,
      ne_eqb _ _ n.0.0.1,
      ne_eqb _ _ n.0.1,
      ne_eqb _ _ n.1,
    )
    (c.on_either.ensures ∙ ap (on_either a.h a.args.now a.current.now a.state.now a.res.now) c.marks_of-p.ensures)
