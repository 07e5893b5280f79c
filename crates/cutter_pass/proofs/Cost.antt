-- What the search and the walk of a pass can cost. Assumes nothing.
use mathlib.Core.List.{List}
use mathlib.Core.Path.{◌≡◌}
use Prim.Native.Nat.{ℕ, ◌≤◌}
use native.Mathlib.Omega.{arith}
use lib.Dec.{eqb}
use Rattle.refusal.specs.Refusal.{number_given}
use Rattle.laws.proofs.Choice.{cond_both}
use Rattle.refusal.proofs.Calls.{refused_or-answered}
use Rattle.answer.specs.declared.Answer.TheVariants.{GoingOn}
use Rattle.pace.specs.declared.Ticks.{Ticks}
use Rattle.cutter_ground.specs.Cells.{CN, INNER}
use Rattle.cutter_state.specs.declared.Cutter.{Cutter}
use Rattle.cutter_state.specs.WellFormed.{WellFormed}
use Rattle.cutter_rules.specs.Cost.{step_searched, step_walked}
use Rattle.cutter_keeps.proofs.Cost.{cost-kept}
use Rattle.cutter_keeps.proofs.Nearest.{nearest-kept}
use Rattle.cutter_pass.specs.declared.CutterTurn.{CutterTurn}
use Rattle.cutter_pass.specs.Pass.{pass_refusal, hurt, played, ticks_at, still, after_death, after_keys, pass_on, pass_at}
use Rattle.cutter_pass.specs.Cost.{Costs, PassCost}
use Rattle.cutter_pass.proofs.Refused.{pass_state}
use Rattle.cutter_pass.proofs.Keys.{keys_kept}
use Rattle.cutter_pass.proofs.Kept.{hurt-kept}

module _ (c : Cutter) (keys draws : List ℕ) (time first second : ℕ) where
  abbrev Within : CutterTurn → Type 0
  Within t = Costs t.passed INNER CN

  nothing : (0 ≤ INNER) × (0 ≤ CN)
  nothing = (omega arith, omega arith)

  death_within : WellFormed c → Within (after_death first second c)
  unfolding after_death
  death_within w =
      cond_both Within (eqb (hurt c).lives 0) _ _ (λ _. nothing) (λ _. (omega arith, (nearest-kept.respawn (hurt c) (hurt-kept c w).formed).most))

  keys_within : WellFormed c → Within (after_keys first second time (played c keys))
  unfolding after_keys
  keys_within w =
      let p = played c keys in
      let due : Ticks = ticks_at first second time in
      let k = (keys_kept c keys w).formed in
      cond_both Within p.quit _ _ (λ _. nothing) (λ _. (
        cond_both (λ n. n ≤ INNER) due.one (step_searched p.game) 0 (λ _. cost-kept.most p.game k) (λ _. omega arith),
        cond_both (λ n. n ≤ CN) due.one (step_walked p.game) 0 (λ _. cost-kept.walked p.game k) (λ _. omega arith),
      ))

  on_within : WellFormed c → Within (pass_on first second c keys draws time)
  unfolding pass_on
  on_within w = cond_both Within c.dead _ _ (λ _. death_within w) (λ _. cond_both Within c.won_level _ _ (λ _. nothing) (λ _. keys_within w))

  pass-most : Within (pass_at c keys draws time first second)
  unfolding pass_at
  pass-most =
      refused_or-answered (λ n. still first second n GoingOn c) (pass_on first second c keys draws time) Within (pass_refusal c draws)
      (λ _. nothing) (λ e. on_within (pass_state c draws e))

  pass-refused : (number_given (pass_refusal c draws) ≡ 0 → ⊥) → Costs (pass_at c keys draws time first second).passed 0 0
  unfolding pass_at
  pass-refused some =
      refused_or-answered (λ n. still first second n GoingOn c) (pass_on first second c keys draws time) (λ t. Costs t.passed 0 0) (pass_refusal c draws)
      (λ _. (omega arith, omega arith)) (λ e. absurd (some e))

pub pass-cost : PassCost
pass-cost = record { refused = pass-refused; most = pass-most }
