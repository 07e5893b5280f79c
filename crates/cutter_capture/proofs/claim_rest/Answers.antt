use native.Mathlib.Omega.{arith}
use Rattle.cutter_capture.proofs.Claims.{claiming_turn, claiming_end}
use Rattle.cutter_capture.proofs.claim_rest.Goals as goal

pub loop-at-preserved : goal.loop-at-preserved
loop-at-preserved c =
    claiming_turn _ _ c.requires.0 c.requires.1 c.loop-at.invariant (omega (arith, c.requires.1, c.loop-at-test.true)) c.captured.ensures

pub returns : goal.returns
returns c = claiming_end _ _ c.requires.0 c.requires.1 c.loop-at.invariant (omega (arith, c.requires.1, c.loop-at-test.false))
