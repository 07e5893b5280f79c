-- The ways through a pass, each as the definition has it. Assumes nothing.
use Rattle.std.specs.Prelude.{Ok, Err}
use mathlib.Core.Bool.{true, false, cond}
use mathlib.Core.List.{List}
use mathlib.Core.Path.{◌≡◌, sym}
use Prim.Native.Nat.{ℕ}
use Rattle.refusal.specs.Refusal.{Checked, NONE}
use Rattle.refusal.specs.declared.Refusal.{Refusal}
use Rattle.refusal.proofs.Calls.{turned_away, let_in}
use Rattle.answer.specs.declared.Answer.TheVariants.{GoingOn, Quit}
use Rattle.pace.specs.declared.Ticks.{Ticks}
use Rattle.pace.specs.Pace.{both_ticks}
use Rattle.cutter_state.specs.declared.Cutter.{Cutter}
use Rattle.cutter_rules.specs.Tick.{enemies_stepped}
use Rattle.cutter_rules.specs.declared.Made.{Made}
use Rattle.cutter_pass.specs.declared.CutterTurn.{CutterTurn}
use Rattle.cutter_pass.specs.Pass.{CUT_MOVE_CYCLES, CUT_ENEMY_CYCLES, pass_refusal, next_level, played, costing, still, after_death, after_keys, pass_on, pass_at}
use Rattle.cutter_pass.specs.CodePass.{step_if}
use Rattle.controls.specs.Keys.{Played}

module _ (first second time : ℕ) (p : Played Cutter) where
  pub after-quit : p.quit ≡ true → still first second NONE Quit p.game ≡ after_keys first second time p
  unfolding after_keys
  after-quit k = rw k

  pub after_ticks : p.quit ≡ false → {due : Ticks} → due ≡ both_ticks time first second CUT_MOVE_CYCLES CUT_ENEMY_CYCLES
      → {m : Made} → m ≡ step_if due.one p.game → {game : Cutter} → game ≡ cond due.two (enemies_stepped m.game) m.game
      → costing due.first due.second NONE GoingOn game m.searched m.walked ≡ after_keys first second time p
  unfolding after_keys
  after_ticks k t f g = rw (k, g, f, t)

module _ (c : Cutter) (keys draws : List ℕ) (time first second : ℕ) where
  pub on_dead : c.dead ≡ true → pass_on first second c keys draws time ≡ after_death first second c
  unfolding pass_on
  on_dead d = rw d

  pub on_level : c.dead ≡ false → c.won_level ≡ true → pass_on first second c keys draws time ≡ still first second NONE GoingOn (next_level c draws)
  unfolding pass_on
  on_level d w = rw (d, w)

  pub on_keys : c.dead ≡ false → c.won_level ≡ false → pass_on first second c keys draws time ≡ after_keys first second time (played c keys)
  unfolding pass_on
  on_keys d w = rw (d, w)

  module _ {no : Checked} (e : no ≡ pass_refusal c draws) where
    pub refused-pass : {r : Refusal} → no ≡ Err r → still first second (Err r) GoingOn c ≡ pass_at c keys draws time first second
    unfolding pass_at
    refused-pass q = turned_away (λ (n : Checked). still first second n GoingOn c) (pass_on first second c keys draws time) e q

    pub played-pass : {u : Unit {0}} → no ≡ Ok u → {t : CutterTurn} → pass_on first second c keys draws time ≡ t → t ≡ pass_at c keys draws time first second
    unfolding pass_at
    played-pass z q = let_in (λ (n : Checked). still first second n GoingOn c) (pass_on first second c keys draws time) e (sym q) z
