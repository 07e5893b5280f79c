-- The ways through a pass, each as the definition has it. Assumes nothing.
use Rattle.std.specs.Prelude.{Ok, Err}
use mathlib.Core.Bool.{true, false, cond}
use mathlib.Core.List.{List}
use mathlib.Core.Path.{◌≡◌, sym, ◌∙◌}
use Prim.Native.Nat.{ℕ}
use Rattle.refusal.specs.Refusal.{Checked, NONE, clear}
use Rattle.refusal.proofs.Calls.{turned_away, ok_zero}
use Rattle.refusal.proofs.Checks.{clear_of}
use Rattle.refusal.specs.declared.Refusal.{Refusal}
use Rattle.answer.specs.declared.Answer.TheVariants.{GoingOn, Won, Dead, Quit}
use Rattle.pace.specs.declared.Ticks.{Ticks}
use Rattle.pace.specs.Pace.{both_ticks}
use Rattle.mine_state.specs.declared.Mine.{Mine}
use Rattle.mine_state.specs.WellFormed.{refusal_of}
use Rattle.mine_rules.specs.Tick as Tick
use Rattle.mine_rules.specs.Gravity.{gravity_of}
use Rattle.mine_pass.specs.Pass.{GRAVITY_CYCLES, ENEMY_CYCLES, played, still, after_keys, pass_on, pass_at}
use Rattle.controls.specs.Keys.{Played}

module _ (first second time : ℕ) (p : Played Mine) where
  pub after-quit : p.quit ≡ true → still first second NONE Quit p.game ≡ after_keys first second time p
  unfolding after_keys
  after-quit k = rw k

  pub after_ticks : p.quit ≡ false → {due : Ticks} → due ≡ both_ticks time first second GRAVITY_CYCLES ENEMY_CYCLES
      → {fallen : Mine} → fallen ≡ cond due.one (gravity_of p.game) p.game → {game : Mine} → game ≡ cond due.two (Tick.enemies_moved fallen) fallen
      → record { first = due.first; second = due.second; passed = record { refusal = NONE; answer = GoingOn; game = game } } ≡ after_keys first second time p
  unfolding after_keys
  after_ticks k t f g = rw (k, g, f, t)

module _ (m : Mine) (keys : List ℕ) (time first second : ℕ) where
  pub refused-pass : {no : Checked} {r : Refusal} → no ≡ refusal_of m → no ≡ Err r → still first second (Err r) GoingOn m ≡ pass_at m keys time first second
  unfolding pass_at
  refused-pass e n = turned_away (λ (k : Checked). still first second k GoingOn m) (pass_on first second m keys time) e n

  module _ {no : Checked} {u : Unit {0}} (e : no ≡ refusal_of m) (z : no ≡ Ok u) where
    none : clear (refusal_of m) ≡ true
    none = clear_of (refusal_of m) (ok_zero (sym e ∙ z))

    pub won_pass : m.won ≡ true → still first second NONE Won m ≡ pass_at m keys time first second
    unfolding pass_at pass_on
    won_pass w = rw (none, w)

    module _ (w : m.won ≡ false) where
      pub dead_pass : m.dead ≡ true → still first second NONE Dead m ≡ pass_at m keys time first second
      unfolding pass_at pass_on
      dead_pass d = rw (none, w, d)

      pub after_keys_lem : m.dead ≡ false → after_keys first second time (played m keys) ≡ pass_at m keys time first second
      unfolding pass_at pass_on
      after_keys_lem d = rw (none, w, d)
