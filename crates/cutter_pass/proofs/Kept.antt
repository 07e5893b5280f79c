-- Each part of a pass keeps a state well formed; when a step wins. Assumes nothing.
use mathlib.Core.Bool.{Bool, true, false, cond}
use mathlib.Core.Path.{◌≡◌}
use Prim.Native.Nat.{ℕ, ◌-◌, ◌<◌}
use native.Mathlib.Omega.{arith}
use lib.Dec.{ltb}
use borrow.Author.Tests.{lt-ltb}
use Rattle.laws.proofs.Choice.{cond_both}
use Rattle.cutter_state.specs.declared.Cutter.{Cutter}
use Rattle.cutter_state.specs.Change.{with_won}
use Rattle.cutter_state.specs.WellFormed.{WellFormed}
use Rattle.cutter_rules.specs.Step.{stepped}
use Rattle.cutter_rules.specs.Tick.{enemies_stepped}
use Rattle.cutter_keeps.specs.Kept.{Kept}
use Rattle.cutter_keeps.specs.Steps.{step_claims, step_loses, Accounts}
use Rattle.cutter_keeps.proofs.Changes.{kept_self, kept-lives, kept_dead, kept_won}
use Rattle.cutter_keeps.proofs.Tick.{tick-kept}
use Rattle.cutter_keeps.proofs.Accounts.{step_accounts}
use Rattle.cutter_pass.specs.Pass.{CLEAR_BELOW, hurt, scored, step_scored}
use Rattle.cutter_state.specs.State.{black_in}

-- a life less is never below 0; black at 465 does not win, and 464 does
module _ (c : Cutter) where
  pub no_lives : c.lives ≡ 0 → (hurt c).lives ≡ 0
  unfolding hurt
  no_lives e = rw e

  pub black_465 : black_in c ≡ 465 → scored c ≡ c
  unfolding scored
  black_465 e = rw e

  pub black_464 : black_in c ≡ 464 → scored c ≡ with_won c true
  unfolding scored
  black_464 e = rw e

pub accounts_kept : {b c s : Cutter} {m n : ℕ} → Accounts b c m n → Kept c s → Accounts b s m n
accounts_kept j k = record { formed = k.formed; claimed = omega (arith, k.claimed, j.claimed); creatures = omega (arith, k.creatures, j.creatures) }

pub kept_accounted : {b c s : Cutter} {m n : ℕ} → Kept b c → Accounts c s m n → Accounts b s m n
kept_accounted k j = record { formed = j.formed; claimed = omega (arith, k.claimed, j.claimed); creatures = omega (arith, k.creatures, j.creatures) }

module _ (c : Cutter) (w : WellFormed c) where
  pub hurt-kept : Kept c (hurt c)
  unfolding hurt
  hurt-kept = kept-lives (kept_dead (kept_self w) false) (c.lives - 1) (omega (arith, w.lives))

  scored-kept : Kept c (scored c)
  unfolding scored
  scored-kept = cond_both (Kept c) (ltb (black_in c) CLEAR_BELOW) _ _ (λ _. kept_won (kept_self w) true) (λ _. kept_self w)

  pub ticked_kept : (due : Bool) → Kept c (cond due (enemies_stepped c) c)
  ticked_kept due = cond_both (Kept c) due _ _ (λ _. tick-kept c w) (λ _. kept_self w)

-- black below 465 after a step wins, whether or not it closed a cut
pub step_wins : (c : Cutter) → black_in (stepped c) < CLEAR_BELOW → (step_scored c).won_level ≡ true
unfolding scored
step_wins c h = rw (lt-ltb (black_in (stepped c)) CLEAR_BELOW h)

pub moved_accounts : (c : Cutter) → WellFormed c → Accounts c (step_scored c) (step_claims c) (step_loses c)
moved_accounts c w = let k = step_accounts c w in accounts_kept k (scored-kept (stepped c) k.formed)

pub moved-formed : (c : Cutter) (due : Bool) → WellFormed c → WellFormed (cond due (step_scored c) c)
moved-formed c due w = cond_both WellFormed due (step_scored c) c (λ _. (moved_accounts c w).formed) (λ _. w)
