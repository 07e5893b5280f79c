-- The direction call keeps a state well formed, and its numbers. Assumes nothing.
use mathlib.Core.Bool.{true}
use mathlib.Core.Path.{◌≡◌, refl}
use Prim.Native.Nat.{ℕ, zero, suc}
use Rattle.cutter_state.specs.declared.Cutter.{Cutter}
use Rattle.cutter_state.specs.WellFormed.{direction_ok, WellFormed}
use Rattle.cutter_rules.specs.Step.{unit_x, unit_y, directed}
use Rattle.cutter_keeps.specs.Kept.{Kept}
use Rattle.cutter_keeps.proofs.Changes.{kept_self, kept-direction}

unit-step : (d : ℕ) → direction_ok (unit_x d) (unit_y d) ≡ true
unfolding unit_x unit_y
unit-step zero = refl
unit-step (suc zero) = refl
unit-step (suc (suc zero)) = refl
unit-step (suc (suc (suc d))) = refl

pub direction-kept : (c : Cutter) (d : ℕ) → WellFormed c → Kept c (directed c d)
direction-kept c d w = kept-direction (kept_self w) (unit_x d) (unit_y d) (unit-step d)
