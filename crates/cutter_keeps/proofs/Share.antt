-- What the rules do to the share. Assumes nothing.
use mathlib.Core.Bool.{false}
use mathlib.Core.Logic.{⊎_elim}
use mathlib.Core.Path.{◌≡◌, ap}
use Prim.Native.Nat.{ℕ, ◌≤◌}
use native.Mathlib.Omega.{arith}
use Rattle.laws.proofs.Choice.{bool_cases}
use Rattle.cutter_state.specs.declared.Cutter.{Cutter}
use Rattle.cutter_state.specs.State.{claimed_in, share_of}
use Rattle.cutter_state.specs.WellFormed.{WellFormed}
use Rattle.cutter_rules.specs.Step.{stepped, closes}
use Rattle.cutter_keeps.specs.Steps.{lays}
use Rattle.cutter_keeps.specs.Share.{ShareKept}
use Rattle.cutter_keeps.proofs.Steps.{step-stepped}
use Rattle.cutter_keeps.proofs.Respawn.{respawn_erased}

-- more claimed cells, no less share
share_mono : (m n : ℕ) → m ≤ n → share_of m ≤ share_of n
share_mono m n h = omega arith

open_step : (c : Cutter) → WellFormed c → closes c ≡ false → claimed_in (stepped c) ≡ claimed_in c
open_step c w e = let s = step-stepped c w in ⊎_elim (λ l. (s.laying l).claimed) (λ n. (s.other e n).claimed) (bool_cases (lays c))

pub share_kept : ShareKept
share_kept =
    record {
      fresh = λ c f. ap share_of f.claimed;
      laying = λ c w e. ap share_of (open_step c w e);
      lost = λ c w. ap share_of (respawn_erased c w).claimed;
      closing = λ c w e. let s = ((step-stepped c w).closing e).claimed in share_mono (claimed_in c) (claimed_in (stepped c)) (omega (arith, s));
    }
