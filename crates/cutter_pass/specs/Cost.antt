-- What the search and the walk of a pass can cost.
use Rattle.refusal.specs.Refusal.{number_given}
use Rattle.std.specs.Prelude.{List, ◌≡◌, ℕ, ◌≤◌}
use Rattle.cutter_ground.specs.Cells.{CN, INNER}
use Rattle.cutter_state.specs.declared.Cutter.{Cutter}
use Rattle.cutter_pass.specs.declared.CutterPassed.{CutterPassed}
use Rattle.cutter_pass.specs.Pass.{pass_refusal, pass_at}

-- so many cells at most
abbrev pub Costs : CutterPassed → ℕ → ℕ → Type 0
Costs p searched walked = (p.searched ≤ searched) × (p.walked ≤ walked)

pub record PassCost : Type 0 where
  -- a refused pass takes none
  pub refused : (c : Cutter) (keys draws : List ℕ) (time first second : ℕ) → (number_given (pass_refusal c draws) ≡ 0 → ⊥) → Costs (pass_at c keys draws time first second).passed 0 0
  -- any pass at most 1,860 and 2,048
  pub most : (c : Cutter) (keys draws : List ℕ) (time first second : ℕ) → Costs (pass_at c keys draws time first second).passed INNER CN
