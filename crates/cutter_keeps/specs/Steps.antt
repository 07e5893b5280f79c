-- When a step lays line, what one that closes a cut is, and what a step does to the accounts.
use Rattle.std.specs.Prelude.{Bool, true, false, cond, ◌&&◌, ◌≡◌, ℕ, ◌+◌}
use Rattle.cutter_ground.specs.Cells.{black_at}
use Rattle.cutter_closing.specs.Counted.{MAX_COMP}
use Rattle.cutter_closing.specs.Account.{taken_of, gone_of}
use Rattle.cutter_state.specs.declared.Cutter.{Cutter}
use Rattle.cutter_state.specs.State.{creatures, claimed_in, line_in}
use Rattle.cutter_state.specs.WellFormed.{WellFormed}
use Rattle.cutter_rules.specs.Step.{target, entered, cut_closed, at_border, stepped, advances, closes}
use Rattle.cutter_keeps.specs.Kept.{Kept, Laid, Closed}

-- a step that closes a cut is the one of document 01 that enters, closes the cut and then moves to the border
abbrev pub ClosesStep : Type 0
ClosesStep = (c : Cutter) → closes c ≡ true → stepped c ≡ at_border (cut_closed (entered c (target c)))

-- a step lays line: to a black cell
unfoldable pub lays : Cutter → Bool
lays c = advances c && black_at c.grid (target c)

-- cells of the regions that a closing takes, and creatures outside the one it keeps
abbrev pub taken_by : Cutter → ℕ
taken_by c = taken_of MAX_COMP c.grid (creatures c)

abbrev pub gone_by : Cutter → ℕ
gone_by c = gone_of MAX_COMP c.grid (creatures c)

-- from c to s by a step: a closing, line laid, or the numbers unchanged
pub record Stepped (c s : Cutter) : Type 0 where
  pub closing : closes c ≡ true → Closed c s (taken_by c) (gone_by c)
  pub laying : lays c ≡ true → Laid c s
  pub other : closes c ≡ false → lays c ≡ false → Kept c s

-- ---- the accounts

-- from c to s: so many cells more are claimed, and so many creatures fewer are left
pub record Accounts (c s : Cutter) (more fewer : ℕ) : Type 0 where
  pub formed : WellFormed s
  pub claimed : claimed_in s ≡ claimed_in c + more
  pub creatures : c.count ≡ s.count + fewer

-- where the step closes a cut, the line cells at that moment and the cells of the regions it takes
unfoldable pub step_claims : Cutter → ℕ
step_claims c = cond (closes c) (line_in c + taken_by c) 0

-- where the step closes a cut, the creatures outside the kept region
unfoldable pub step_loses : Cutter → ℕ
step_loses c = cond (closes c) (gone_by c) 0
