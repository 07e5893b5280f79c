use mathlib.Core.Bool.{true, false}
use mathlib.Core.Path.{◌≡◌, sym, ◌∙◌, ap}
use lib.Dec.{eqb}
use borrow.Author.Tests.{eq-eqb, ne_eqb}
use Rattle.refusal.specs.Refusal.{NONE}
use Rattle.answer.specs.declared.Answer.TheVariants.{GoingOn, Over}
use Rattle.cutter_state.specs.declared.Cutter.{Cutter}
use Rattle.cutter_rules.specs.declared.Made.{Made}
use Rattle.cutter_rules.specs.Cost.{respawn_made}
use Rattle.cutter_pass.specs.Pass.{hurt, costing, still, after_death}
use Rattle.cutter_turn.proofs.after_death.Goals as goal

pub returns-then-out-eq0 : goal.returns-then-out-eq0
unfolding after_death
returns-then-out-eq0 c =
    let a = c.args in
    let over : eqb (hurt a.c).lives 0 ≡ true = ap (λ (s : Cutter). eqb s.lives 0) (sym c.lose_life-out.ensures) ∙ eq-eqb _ 0 c.if-out-eq0.true in
    rw over (c.turn.ensures ∙ ap (still a.first a.second NONE Over) c.lose_life-out.ensures)

pub returns : goal.returns
unfolding after_death
returns c =
    let a = c.args in
    let on : eqb (hurt a.c).lives 0 ≡ false = ap (λ (s : Cutter). eqb s.lives 0) (sym c.lose_life-out.ensures) ∙ ne_eqb _ 0 c.if-out-eq0.false in
    rw on
    (c.turn-2.ensures ∙ ap (λ (m : Made). costing a.first a.second NONE GoingOn m.game 0 m.walked)
    (c.respawn-back.ensures ∙ ap respawn_made c.lose_life-out.ensures))
