-- Two ways to close a cut: by the queue, and by plain sweeps.
use Rattle.std.specs.Prelude.{true, List, ◌≡◌, ℕ}
use Rattle.cutter_sweeps.specs.Sweeps.{Settled}
use Rattle.cutter_closing.specs.Closing.{claim_line, closed, close_cut}
use Rattle.cutter_state.specs.declared.Cutter.{Cutter}
use Rattle.cutter_state.specs.State.{creatures}
use Rattle.cutter_state.specs.WellFormed.{WellFormed}
use Rattle.cutter.specs.declared.calls.CutterAnswer.{CutterAnswer}
use Rattle.cutter.specs.Calls.{step_call, sweeps_call}
use Rattle.cutter_rules.specs.Step.{closes}

-- the same answer without a search
abbrev pub unsearched : CutterAnswer → CutterAnswer
unsearched a = record { refusal = a.refusal; game = a.game; searched = 0; walked = a.walked }

pub record Engines : Type 0 where
  -- on every well-formed state whose player is about to close, for every limit, however many regions there are: by the numbers L that sweeps
  -- leave, the same grid and the same creatures in the same order
  pub same : (c : Cutter) → WellFormed c → closes c ≡ true → (limit : ℕ) (L : List ℕ) → Settled (claim_line c.grid) L
      → closed limit (claim_line c.grid) L (creatures c) ≡ close_cut limit c.grid (creatures c)
  -- and there are such numbers
  pub settle : (c : Cutter) → WellFormed c → (L : List ℕ) × Settled (claim_line c.grid) L
  -- so a step by sweeps is the step, whatever state comes
  pub step : (c : Cutter) → sweeps_call c ≡ unsearched (step_call c)
