-- What a step, a closing and a respawn leave alone, and what becomes of a line. Assumes nothing.
use Rattle.std.specs.Prelude.{None, Option, Some}
use mathlib.Core.Bool.{true, cond}
use mathlib.Core.List.{[], ◌∷◌, map}
use mathlib.Core.Path.{◌≡◌, refl}
use Prim.Native.Nat.{ℕ}
use lib.Dec.{leb}
use Rattle.laws.proofs.Choice.{cond_both}
use Rattle.found.specs.declared.Found.{Found}
use Rattle.cutter_ground.specs.Cells.{CN, CB_BLACK, CB_FILLED, CB_TRAIL, on_border, line_at, claimed_at}
use Rattle.cutter_state.specs.declared.Cutter.{Cutter}
use Rattle.cutter_state.specs.State.{creatures}
use Rattle.cutter_state.specs.Change.{with_trailing, killed}
use Rattle.cutter_rules.specs.Step.{no_direction, stopped, target, entered, laid, cut_closed, at_border, trailing_step, walking_step, met, stepped, line_erased, creature_at}

-- a step does not set won
module _ (c : Cutter) where
  abbrev Same : Cutter → Type 0
  Same x = x.won_level ≡ c.won_level

  module _ (t : ℕ) where
    trailing_won : Same (trailing_step c t)
    unfolding trailing_step at_border cut_closed
    trailing_won =
        let on : Cutter = cond (claimed_at c.grid t) (at_border (cut_closed (entered c t))) (laid c t) in
        cond_both Same (line_at c.grid t) (killed c) on (λ e. refl)
        (λ e. cond_both Same (claimed_at c.grid t) (at_border (cut_closed (entered c t))) (laid c t) (λ e. refl) (λ e. refl))

    walking_won : Same (walking_step c t)
    unfolding walking_step
    walking_won =
        cond_both Same (claimed_at c.grid t) (cond (on_border c.grid t) (entered c t) (stopped c)) (with_trailing (laid c t) true)
        (λ e. cond_both Same (on_border c.grid t) (entered c t) (stopped c) (λ e. refl) (λ e. refl))
        (λ e. refl)

    met_won : (f : Option Found) → Same (met f c t)
    unfolding met
    met_won (Some f) = refl
    met_won None = cond_both Same c.trailing (trailing_step c t) (walking_step c t) (λ e. trailing_won) (λ e. walking_won)

  pub step_won : Same (stepped c)
  unfolding stepped
  step_won =
      let found : Cutter = met (creature_at (creatures c) (target c)) c (target c) in
      cond_both Same (no_direction c) c (cond (leb CN (target c)) (stopped c) found) (λ e. refl)
      (λ e. cond_both Same (leb CN (target c)) (stopped c) found (λ e. refl) (λ e. met_won (target c) (creature_at (creatures c) (target c))))

-- a closing keeps the direction
pub closing-direction : (c : Cutter) → ((cut_closed c).dx ≡ c.dx) × ((cut_closed c).dy ≡ c.dy)
unfolding cut_closed
closing-direction c = (refl, refl)

-- a respawn takes the line back to black, and nothing else
pub erased : map line_erased (CB_BLACK ∷ CB_FILLED ∷ CB_TRAIL ∷ []) ≡ CB_BLACK ∷ CB_FILLED ∷ CB_BLACK ∷ []
erased = refl
