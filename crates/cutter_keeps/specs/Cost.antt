-- What the search and the walk of a step cost. Which cells the walk takes stands with where it ends (Nearest.antt).
use Rattle.std.specs.Prelude.{true, false, List, ◌≡◌, ℕ, ◌≤◌}
use Rattle.cutter_ground.specs.Cells.{CN, INNER}
use Rattle.cutter_joined.proofs.Labels.{labels}
use Rattle.cutter_closing.specs.Counted.{MAX_COMP, counted}
use Rattle.cutter_closing.specs.Closing.{claim_line}
use Rattle.cutter_closing.specs.Cost.{cells_of}
use Rattle.cutter_state.specs.declared.Cutter.{Cutter}
use Rattle.cutter_state.specs.WellFormed.{WellFormed}
use Rattle.cutter_rules.specs.Step.{closes}
use Rattle.cutter_rules.specs.Cost.{step_searched, step_walked}

-- the labelling just after the line is claimed
abbrev pub regions_of : Cutter → List ℕ
regions_of c = (labels (claim_line c.grid)).0

pub record CostKept : Type 0 where
  -- the cells of the counted regions, added up
  pub searched : (c : Cutter) → closes c ≡ true → step_searched c ≡ cells_of (regions_of c) (counted MAX_COMP (regions_of c))
  -- never above 1,860
  pub most : (c : Cutter) → WellFormed c → step_searched c ≤ INNER
  -- and the walk after it never above 2,048
  pub walked : (c : Cutter) → WellFormed c → step_walked c ≤ CN
  -- zero where the step closes nothing
  pub none : (c : Cutter) → closes c ≡ false → (step_searched c ≡ 0) × (step_walked c ≡ 0)
