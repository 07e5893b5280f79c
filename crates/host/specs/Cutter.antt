-- Block Cutter's calls as C gets them: refused for a byte that is no flag, or answered as the public call answers.
use Rattle.refusal.specs.Refusal.{Checked, numbered_of, refused_or}
use Rattle.answer.specs.Answer.{GOING_ON, number_of}
use Rattle.pace.specs.declared.Pace.{Pace}
use Rattle.cutter_pass.specs.declared.CutterTurn.{CutterTurn}
use Rattle.cutter_pass.specs.Pass.{marks_of}
use Rattle.cutter.specs.declared.calls.CutterAnswer.{CutterAnswer}
use Rattle.cutter.specs.declared.calls.Ground.{Ground}
use Rattle.host_state.specs.declared.cutter_bytes.HostCutter.{HostCutter}
use Rattle.host_state.specs.Cutter.{flags_of, host_of}
use Rattle.host.specs.declared.cutter_calls.HostCutterAnswer.{HostCutterAnswer}
use Rattle.host.specs.declared.cutter_calls.HostCutterPassed.{HostCutterPassed}
use Rattle.host.specs.declared.cutter_calls.HostGround.{HostGround}

-- an answer with the host's state
abbrev pub answer_out : CutterAnswer → HostCutterAnswer
answer_out a = record { refusal = numbered_of a.refusal; game = host_of a.game; searched = a.searched; walked = a.walked }

-- a pass's answer by its number, with the marks that it leaves
abbrev pub turn_out : CutterTurn → HostCutterPassed
turn_out t =
    record {
      refusal = numbered_of t.passed.refusal;
      answer = number_of t.passed.answer;
      marks = marks_of t;
      game = host_of t.passed.game;
      searched = t.passed.searched;
      walked = t.passed.walked;
    }

-- refused: the number with its place, and the state as it came
abbrev pub refused : HostCutter → Checked → HostCutterAnswer
refused h n = record { refusal = numbered_of n; game = h; searched = 0; walked = 0 }

-- a refused pass goes on, with state and marks as they came
abbrev pub refused_pass : HostCutter → Pace → Checked → HostCutterPassed
refused_pass h marks n = record { refusal = numbered_of n; answer = GOING_ON; marks = marks; game = h; searched = 0; walked = 0 }

-- a call on a state
unfoldable pub hosted : HostCutter → CutterAnswer → HostCutterAnswer
hosted h a = refused_or (flags_of h) (refused h) (answer_out a)

-- a pass
unfoldable pub hosted_pass : HostCutter → Pace → CutterTurn → HostCutterPassed
hosted_pass h marks t = refused_or (flags_of h) (refused_pass h marks) (turn_out t)

-- a ground report with its refusal in numbers
abbrev pub ground_out : Ground → HostGround
ground_out g = record { refusal = numbered_of g.refusal; black = g.black; claimed = g.claimed; line = g.line; share = g.share }
