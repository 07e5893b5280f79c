use mathlib.Core.List.{List}
use mathlib.Core.Path.{sym, ◌∙◌, ap}
use Rattle.mine_state.specs.declared.Enemy.{Enemy}
use Rattle.mine_state.proofs.Facts.{sound}
use Rattle.mine_apart.specs.CodeApart.{standing}
use Rattle.mine_moves.specs.CodeSteps.{dead_if}
use Rattle.mine_pass.specs.Pass.{after_keys}
use Rattle.mine_pass.proofs.Answers.{after-quit, after_ticks}
use Rattle.mine_turn.proofs.Taken.{ready, keyed_state, falling, fallen_game, fallen_state, walkers, after_nothing}
use Rattle.mine_turn.proofs.go_on.Goals as goal

pub parts_of-parts-requires : goal.parts_of-parts-requires
parts_of-parts-requires c =
    record { few = c.requires.few; placed = (sound c.args.m c.requires).placed }

pub play-pressed-requires : goal.play-pressed-requires
play-pressed-requires c =
    ready c.args.m c.requires c.parts_of-parts.ensures

pub returns-then-pressed : goal.returns-then-pressed
returns-then-pressed c =
    let a = c.args in
    c.turn.ensures
    ∙ after-quit a.first a.second a.time _ c.if-pressed.true
    ∙ ap (after_keys a.first a.second a.time) (keyed_state a.m c.requires c.parts_of-parts.ensures a.keys.now c.play-pressed.new.grid c.play-pressed.result c.play-pressed.ensures)

pub returns-then-not-due : goal.returns-then-not-due
returns-then-not-due c =
    let a = c.args in
    let due = c.both_ticks-due.result in
    c.turn-then-not-due.ensures
    ∙ after_nothing a.first a.second a.time _ c.if-pressed.false c.both_ticks-due.ensures (c.if-not-due.true)
    ∙ ap (after_keys a.first a.second a.time) (keyed_state a.m c.requires c.parts_of-parts.ensures a.keys.now c.play-pressed.new.grid c.play-pressed.result c.play-pressed.ensures)

pub gravity_if-f-requires : goal.gravity_if-f-requires
gravity_if-f-requires c =
    falling c.args.m c.requires c.parts_of-parts.ensures c.args.keys.now c.play-pressed.new.grid c.play-pressed.result c.play-pressed.ensures

pub enemies_if-caught-requires : goal.enemies_if-caught-requires
enemies_if-caught-requires c =
    walkers c.args.m c.requires c.parts_of-parts.ensures c.args.keys.now c.play-pressed.new.grid c.play-pressed.result c.play-pressed.ensures
    c.both_ticks-due.result.one _ _ _ _ _ c.gravity_if-f.ensures

pub returns : goal.returns
returns c =
    let a = c.args in
    let keys = a.keys.now in
    let q = c.parts_of-parts.ensures in
    let one = c.both_ticks-due.result.one in
    let F = fallen_game a.m c.requires q keys c.play-pressed.new.grid c.play-pressed.result c.play-pressed.ensures one _ _ _ _ _ c.gravity_if-f.ensures in
    let f = fallen_state a.m c.requires q keys c.play-pressed.new.grid c.play-pressed.result c.play-pressed.ensures one _ _ _ _ _ c.gravity_if-f.ensures in
    let y = ap (λ (es : List Enemy). dead_if c.enemies_if-caught.result (standing F F.grid es F.count F.px F.py)) c.enemies_of-enemies.ensures
    ∙ sym (c.enemies_if-caught.ensures.does F) in
    c.turn-2.ensures
    ∙ after_ticks a.first a.second a.time _ c.if-pressed.false c.both_ticks-due.ensures f y
    ∙ ap (after_keys a.first a.second a.time) (keyed_state a.m c.requires q keys c.play-pressed.new.grid c.play-pressed.result c.play-pressed.ensures)
