-- For the code alone: what a next level is handed, and what a step that may be due makes.
use Rattle.std.specs.Prelude.{List, ◌+◌, ◌<◌, ℕ, ◌≡◌, Bool, true, cond}
use Rattle.cutter_state.specs.declared.Cutter.{Cutter}
use Rattle.cutter_state.specs.WellFormed.{MAX_LEVEL}
use Rattle.cutter_rules.specs.Level.{creatures_of, draws_ok}
use Rattle.cutter_rules.specs.declared.Made.{Made}
use Rattle.cutter_rules.specs.Cost.{step_searched, step_walked}
use Rattle.cutter_pass.specs.Pass.{step_scored}

-- a next level, and its draws
pub record NextLevel (c : Cutter) (draws : List ℕ) : Type 0 where
  pub below : c.level < MAX_LEVEL
  pub fit : draws_ok draws (creatures_of (c.level + 1)) ≡ true

-- the step if due, with its score
abbrev pub step_if : Bool → Cutter → Made
step_if due c = record { game = cond due (step_scored c) c; searched = cond due (step_searched c) 0; walked = cond due (step_walked c) 0 }
