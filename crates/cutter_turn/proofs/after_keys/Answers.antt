use mathlib.Core.Path.{◌≡◌, sym, ◌∙◌, ap, subst}
use Rattle.cutter_state.specs.declared.Cutter.{Cutter}
use Rattle.cutter_state.specs.WellFormed.{WellFormed}
use Rattle.cutter_pass.specs.Pass.{played, after_keys}
use Rattle.cutter_pass.proofs.Keys.{turned_kept}
use Rattle.cutter_pass.proofs.Kept.{moved-formed}
use Rattle.cutter_pass.proofs.Answers.{after-quit, after_ticks}
use Rattle.controls.specs.Keys.{Played}
use Rattle.cutter_turn.proofs.after_keys.Goals as goal

pub returns-then-pressed : goal.returns-then-pressed
returns-then-pressed c =
    let a = c.args in
    let all : ◌≡◌ {A = Played Cutter} (record { quit = c.play-pressed.result.quit; game = c.press-played.result }) (played a.c a.keys.now) = ap
    (λ (g : Cutter). record { quit = c.play-pressed.result.quit; game = g }) c.press-played.ensures ∙ c.play-pressed.ensures a.c in
    c.turn.ensures ∙ after-quit a.first a.second a.time _ c.if-pressed.true ∙ ap (after_keys a.first a.second a.time) all

pub step_if-made-requires : goal.step_if-made-requires
step_if-made-requires c =
    rw c.press-played.ensures (turned_kept c.args.c c.play-pressed.result.dir c.requires)

pub enemies_if-game-requires : goal.enemies_if-game-requires
enemies_if-game-requires c =
    let w = subst WellFormed (sym c.press-played.ensures) (turned_kept c.args.c c.play-pressed.result.dir c.requires) in
    rw c.step_if-made.ensures (moved-formed _ c.both_ticks-due.result.one w)

pub returns : goal.returns
returns c =
    let a = c.args in
    let all : ◌≡◌ {A = Played Cutter} (record { quit = c.play-pressed.result.quit; game = c.press-played.result }) (played a.c a.keys.now) = ap
    (λ (g : Cutter). record { quit = c.play-pressed.result.quit; game = g }) c.press-played.ensures ∙ c.play-pressed.ensures a.c in
    c.turn-2.ensures
    ∙ after_ticks a.first a.second a.time _ c.if-pressed.false c.both_ticks-due.ensures c.step_if-made.ensures c.enemies_if-game.ensures
    ∙ ap (after_keys a.first a.second a.time) all
