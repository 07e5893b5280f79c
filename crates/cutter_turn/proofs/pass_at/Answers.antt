use mathlib.Core.Path.{◌∙◌, ap, sym}
use Rattle.refusal.specs.Refusal.{NONE}
use Rattle.refusal.proofs.Calls.{ok_zero}
use Rattle.answer.specs.declared.Answer.TheVariants.{GoingOn}
use Rattle.cutter_pass.specs.Pass.{still}
use Rattle.cutter_pass.proofs.Refused.{pass_state, pass-level}
use Rattle.cutter_pass.proofs.Answers.{on_dead, on_level, on_keys, refused-pass, played-pass}
use Rattle.cutter_turn.proofs.pass_at.Goals as goal

pub returns-in-Err : goal.returns-in-Err
returns-in-Err c =
    let a = c.args in
    c.turn.ensures ∙ refused-pass a.c a.keys.now a.draws.now a.time a.first a.second c.refusal_of.ensures c.in-Err.is

pub returns-then-c : goal.returns-then-c
returns-then-c c =
    let a = c.args in
    c.after_death.ensures
    ∙ played-pass a.c a.keys.now a.draws.now a.time a.first a.second c.refusal_of.ensures c.in_default.is
    (on_dead a.c a.keys.now a.draws.now a.time a.first a.second c.if-c.true)

pub level_up-next-requires : goal.level_up-next-requires
level_up-next-requires c =
    let a = c.args in
    pass-level a.c a.draws.now (ok_zero (sym c.refusal_of.ensures ∙ c.in_default.is)) c.if-c.false c.if-c-2.true

pub returns-then-c-2 : goal.returns-then-c-2
returns-then-c-2 c =
    let a = c.args in
    c.turn-then-c-2.ensures
    ∙ ap (still a.first a.second NONE GoingOn) c.level_up-next.ensures
    ∙ played-pass a.c a.keys.now a.draws.now a.time a.first a.second c.refusal_of.ensures c.in_default.is
    (on_level a.c a.keys.now a.draws.now a.time a.first a.second c.if-c.false c.if-c-2.true)

pub after_keys-requires : goal.after_keys-requires
after_keys-requires c =
    let a = c.args in
    pass_state a.c a.draws.now (ok_zero (sym c.refusal_of.ensures ∙ c.in_default.is))

pub returns : goal.returns
returns c =
    let a = c.args in
    c.after_keys.ensures
    ∙ played-pass a.c a.keys.now a.draws.now a.time a.first a.second c.refusal_of.ensures c.in_default.is
    (on_keys a.c a.keys.now a.draws.now a.time a.first a.second c.if-c.false c.if-c-2.false)
