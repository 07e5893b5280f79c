use mathlib.Core.Path.{◌∙◌, sym}
use Rattle.refusal.proofs.Calls.{ok_zero}
use Rattle.mine_state.proofs.Facts.{accepted}
use Rattle.mine_pass.proofs.Answers.{refused-pass, won_pass, dead_pass, after_keys_lem}
use Rattle.mine_turn.proofs.pass_at.Goals as goal

pub returns-in-Err : goal.returns-in-Err
returns-in-Err c =
    let a = c.args in
    c.turn.ensures ∙ refused-pass a.m a.keys.now a.time a.first a.second c.check.ensures c.in-Err.is

pub returns-then-m : goal.returns-then-m
returns-then-m c =
    let a = c.args in
    c.turn-then-m.ensures ∙ won_pass a.m a.keys.now a.time a.first a.second c.check.ensures c.in_default.is c.if-m.true

pub returns-then-m-2 : goal.returns-then-m-2
returns-then-m-2 c =
    let a = c.args in
    c.turn-then-m-2.ensures ∙ dead_pass a.m a.keys.now a.time a.first a.second c.check.ensures c.in_default.is c.if-m.false c.if-m-2.true

pub go_on-requires : goal.go_on-requires
go_on-requires c = accepted _ (ok_zero (sym c.check.ensures ∙ c.in_default.is))

pub returns : goal.returns
returns c =
    let a = c.args in
    c.go_on.ensures ∙ after_keys_lem a.m a.keys.now a.time a.first a.second c.check.ensures c.in_default.is c.if-m.false c.if-m-2.false
