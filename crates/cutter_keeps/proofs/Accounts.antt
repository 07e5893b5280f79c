-- What each change adds to the accounts. Assumes nothing.
use mathlib.Core.Logic.{⊎_elim}
use Prim.Native.Nat.{ℕ, ◌+◌}
use native.Mathlib.Omega.{arith}
use Rattle.laws.proofs.Choice.{bool_cases}
use Rattle.cutter_state.specs.declared.Cutter.{Cutter}
use Rattle.cutter_state.specs.WellFormed.{WellFormed}
use Rattle.cutter_rules.specs.Step.{stepped, closes}
use Rattle.cutter_keeps.specs.Kept.{Kept, Laid, Erased}
use Rattle.cutter_keeps.specs.Steps.{lays, step_claims, step_loses, Stepped, Accounts}
use Rattle.cutter_keeps.proofs.Steps.{step-stepped}

pub kept_accounts : {c s : Cutter} → Kept c s → Accounts c s 0 0
kept_accounts k = record { formed = k.formed; claimed = omega (arith, k.claimed); creatures = omega (arith, k.creatures) }

pub laid_accounts : {c s : Cutter} → Laid c s → Accounts c s 0 0
laid_accounts k = record { formed = k.formed; claimed = omega (arith, k.claimed); creatures = omega (arith, k.creatures) }

pub erased_accounts : {c s : Cutter} → Erased c s → Accounts c s 0 0
erased_accounts k = record { formed = k.formed; claimed = omega (arith, k.claimed); creatures = omega (arith, k.creatures) }

pub accounts_then : {b c s : Cutter} {m n p q : ℕ} → Accounts b c m p → Accounts c s n q → Accounts b s (m + n) (p + q)
accounts_then j k = record { formed = k.formed; claimed = omega (arith, k.claimed, j.claimed); creatures = omega (arith, k.creatures, j.creatures) }

stepped_accounts : {c s : Cutter} → Stepped c s → Accounts c s (step_claims c) (step_loses c)
unfolding step_claims step_loses
stepped_accounts {c} {s} k =
    ⊎_elim (λ e. let q = k.closing e in rw e (record { formed = q.formed; claimed = omega (arith, q.claimed); creatures = q.creatures }))
    (λ e. rw e (⊎_elim (λ l. laid_accounts (k.laying l)) (λ l. kept_accounts (k.other e l)) (bool_cases (lays c)))) (bool_cases (closes c))

pub step_accounts : (c : Cutter) → WellFormed c → Accounts c (stepped c) (step_claims c) (step_loses c)
step_accounts c w = stepped_accounts (step-stepped c w)
