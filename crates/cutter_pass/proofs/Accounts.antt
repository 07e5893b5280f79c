-- What a pass adds to the accounts, and the fresh level that it may start. Assumes nothing.
use mathlib.Core.Bool.{Bool, true, false, cond, not, ◌&&◌}
use mathlib.Core.List.{List}
use mathlib.Core.Logic.{⊎_elim}
use mathlib.Core.Path.{◌≡◌}
use Prim.Native.Nat.{ℕ, ◌+◌}
use native.Mathlib.Omega.{arith}
use lib.Dec.{eqb}
use borrow.Author.Tests.{not-true}
use Rattle.refusal.specs.Refusal.{number_given}
use Rattle.laws.proofs.Choice.{cond_both, bool_cases, and_left, and_right}
use Rattle.pace.specs.declared.Ticks.{Ticks}
use Rattle.pace.specs.Pace.{both_ticks}
use Rattle.cutter_state.specs.declared.Cutter.{Cutter}
use Rattle.cutter_state.specs.Change.{with_level, with_won}
use Rattle.cutter_state.specs.WellFormed.{WellFormed}
use Rattle.cutter_keeps.specs.Kept.{Fresh}
use Rattle.cutter_keeps.specs.Steps.{step_claims, step_loses, Accounts}
use Rattle.cutter_keeps.proofs.Changes.{kept_self}
use Rattle.cutter_keeps.proofs.Accounts.{kept_accounts, erased_accounts, accounts_then}
use Rattle.cutter_keeps.proofs.Level.{level-fresh}
use Rattle.cutter_keeps.proofs.Respawn.{respawn_erased}
use Rattle.cutter_pass.specs.declared.CutterTurn.{CutterTurn}
use Rattle.cutter_pass.specs.Pass.{CUT_MOVE_CYCLES, CUT_ENEMY_CYCLES, level_due, pass_refusal, hurt, next_level, played, step_scored, paced, after_death, after_keys, pass_on}
use Rattle.cutter_pass.specs.Accounts.{pass_steps, pass_claims, pass_loses}
use Rattle.cutter_pass.proofs.Refused.{pass_state, pass-level}
use Rattle.cutter_pass.proofs.Keys.{keys_kept}
use Rattle.cutter_pass.proofs.Kept.{accounts_kept, kept_accounted, hurt-kept, ticked_kept, moved_accounts}
use Rattle.cutter_pass.proofs.Answers.{on_dead, on_level, on_keys}
use Rattle.cutter_pass.specs.CodePass.{NextLevel}
use Rattle.controls.specs.Keys.{Played}

module _ (c : Cutter) (w : WellFormed c) where
  -- a respawn closes nothing, and nor does a round that is over
  death_accounts : (first second : ℕ) → Accounts c (after_death first second c).passed.game 0 0
  unfolding after_death
  death_accounts first second =
      let k = hurt-kept c w in
      cond_both (λ (t : CutterTurn). Accounts c t.passed.game 0 0) (eqb (hurt c).lives 0) _ _
      (λ _. kept_accounts k)
      (λ _. accounts_then (kept_accounts k) (erased_accounts (respawn_erased (hurt c) k.formed)))

  abbrev P : Cutter → Bool → Type 0
  P s steps = Accounts c s (cond steps (step_claims c) 0) (cond steps (step_loses c) 0)

  moved_if : (due : Bool) → P (cond due (step_scored c) c) due
  moved_if true = moved_accounts c w
  moved_if false = kept_accounts (kept_self w)

  paced_accounts : (due : Ticks) → P (paced c due) due.one
  paced_accounts due = let k = moved_if due.one in accounts_kept k (ticked_kept (cond due.one (step_scored c) c) k.formed due.two)

module _ (first second : ℕ) (c : Cutter) (keys draws : List ℕ) (time : ℕ) where
  abbrev t : CutterTurn
  t = pass_on first second c keys draws time

  abbrev p : Played Cutter
  p = played c keys

  abbrev due : Ticks
  due = both_ticks time first second CUT_MOVE_CYCLES CUT_ENEMY_CYCLES

  -- quit: no ticks, so no closing
  keyed_accounts : WellFormed c
      → Accounts c (after_keys first second time p).passed.game (cond (not p.quit && due.one) (step_claims p.game) 0)
      (cond (not p.quit && due.one) (step_loses p.game) 0)
  unfolding after_keys
  keyed_accounts w =
      let k = keys_kept c keys w in
      ⊎_elim (λ q. rw q (kept_accounts k)) (λ q. rw q (kept_accounted k (paced_accounts p.game k.formed due))) (bool_cases p.quit)

  no_steps : c.dead ≡ true → pass_steps c keys time first ≡ false
  unfolding pass_steps
  no_steps d = rw d

  steps : c.dead ≡ false → c.won_level ≡ false → pass_steps c keys time first ≡ (not p.quit && due.one)
  unfolding pass_steps
  steps d v = rw (d, v)

  alive : level_due c ≡ false → c.dead ≡ false → c.won_level ≡ false
  unfolding level_due
  alive n d = rw d at n

  -- a pass that starts no level
  pub pass_accounts : WellFormed c → level_due c ≡ false → Accounts c t.passed.game (pass_claims c keys time first) (pass_loses c keys time first)
  unfolding pass_claims pass_loses
  pass_accounts w n =
      ⊎_elim (λ d. rw (on_dead c keys draws time first second d, no_steps d) (death_accounts c w first second))
      (λ d. let v = alive n d in rw (on_keys c keys draws time first second d v, steps d v) (keyed_accounts w))
      (bool_cases c.dead)

  -- a pass that starts one
  pub pass-fresh : WellFormed c → NextLevel c draws → c.dead ≡ false → c.won_level ≡ true → Fresh t.passed.game
  unfolding next_level
  pass-fresh w l d v =
      rw (on_level c keys draws time first second d v)
      (level-fresh (with_level (with_won c false) (c.level + 1)) draws w.lives (omega arith) (omega (arith, l.below)) l.fit)

  due-parts : level_due c ≡ true → (c.dead ≡ false) × (c.won_level ≡ true)
  unfolding level_due
  due-parts n = (not-true c.dead (and_left (not c.dead) c.won_level n), and_right (not c.dead) c.won_level n)

  -- every state that a pass gives without a refusal is well formed
  pub pass-formed : number_given (pass_refusal c draws) ≡ 0 → WellFormed t.passed.game
  pass-formed e =
      let w = pass_state c draws e in
      ⊎_elim (λ n. let q = due-parts n in (pass-fresh w (pass-level c draws e q.0 q.1) q.0 q.1).formed) (λ n. (pass_accounts w n).formed) (bool_cases (level_due c))
