-- Both engines close a cut alike. Assumes nothing.
use mathlib.Core.Path.{◌≡◌, ◌∙◌}
use Rattle.refusal.proofs.Calls.{refused_by, answered_by, refused_or-answered}
use Rattle.cutter_sweeps.proofs.Low.{sweeps-settle}
use Rattle.cutter_closing.specs.Closing.{claim_line}
use Rattle.cutter_closing.proofs.Labels.{length-claim_line_lem}
use Rattle.cutter_state.specs.declared.Cutter.{Cutter}
use Rattle.cutter_state.specs.State.{creatures}
use Rattle.cutter_state.specs.WellFormed.{refusal_of}
use Rattle.cutter_state.proofs.Facts.{accepted}
use Rattle.cutter_keeps.proofs.Sweeps.{swept-closed, swept_step_lem, swept-walked}
use Rattle.cutter.specs.declared.calls.CutterAnswer.{CutterAnswer}
use Rattle.cutter.specs.Calls.{refused, made, step_call, sweeps_call}
use Rattle.games.specs.Engines.{unsearched, Engines}
use Rattle.cutter_rules.specs.Cost.{step_made, swept_made}

pub sweeps_call_lem : (c : Cutter) → sweeps_call c ≡ unsearched (step_call c)
unfolding sweeps_call step_call
sweeps_call_lem c =
    refused_or-answered (refused c) (made (step_made c)) (λ (a : CutterAnswer). sweeps_call c ≡ unsearched a) (refusal_of c)
    (λ some. refused_by (refused c) (made (swept_made c)) (refusal_of c) some)
    (λ none. let long = (accepted c none).cells in
    answered_by (refused c) (made (swept_made c)) (refusal_of c) none ∙ rw (swept_step_lem c long, swept-walked c long))

pub engines : Engines
engines =
    record {
      same = λ c w _ limit L s. swept-closed limit c.grid L (creatures c) w.cells s;
      settle = λ c w. sweeps-settle (claim_line c.grid) (length-claim_line_lem c.grid ∙ w.cells);
      step = sweeps_call_lem;
    }
