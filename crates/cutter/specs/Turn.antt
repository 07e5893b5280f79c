-- Document 01, 'One pass, and the pacing record': the record is lent to the pass, which updates it.
use Rattle.std.specs.Prelude.{List, ℕ}
use Rattle.cutter_pass.specs.Pass.{pass_at, marks_of}
use Rattle.cutter_pass.specs.declared.CutterPassed.{CutterPassed}
use Rattle.cutter_pass.specs.declared.CutterTurn.{CutterTurn}
use Rattle.cutter_state.specs.declared.Cutter.{Cutter}
use Rattle.pace.specs.declared.Pace.{Pace}

-- what a pass answers, and the record that it leaves
abbrev pub pass_of : Cutter → List ℕ → List ℕ → ℕ → Pace → CutterPassed × Pace
pass_of c keys draws time pace =
    let t : CutterTurn = pass_at c keys draws time pace.first pace.second in
    (t.passed, marks_of t)
