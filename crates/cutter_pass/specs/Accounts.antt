-- What a pass adds to the accounts: the closings of a pass are those of its step.
use Rattle.std.specs.Prelude.{Bool, cond, not, ◌&&◌, List, ℕ}
use Rattle.pace.specs.Pace.{due_at}
use Rattle.cutter_state.specs.declared.Cutter.{Cutter}
use Rattle.cutter_keeps.specs.Steps.{step_claims, step_loses}
use Rattle.cutter_pass.specs.Pass.{CUT_MOVE_CYCLES, played}

-- a pass that isn't refused has a step: none where it respawns, is over, starts a level or quits, or where no step is due
unfoldable pub pass_steps : Cutter → List ℕ → ℕ → ℕ → Bool
pass_steps c keys time first =
    not c.dead && not c.won_level && not (played c keys).quit && due_at time first CUT_MOVE_CYCLES

-- the cells claimed by the closing of its step
unfoldable pub pass_claims : Cutter → List ℕ → ℕ → ℕ → ℕ
pass_claims c keys time first = cond (pass_steps c keys time first) (step_claims (played c keys).game) 0

-- the creatures that go at it
unfoldable pub pass_loses : Cutter → List ℕ → ℕ → ℕ → ℕ
pass_loses c keys time first = cond (pass_steps c keys time first) (step_loses (played c keys).game) 0
