-- Block Mine's calls as C gets them: refused for a byte that is no flag, or answered as the public call answers.
use Rattle.refusal.specs.Refusal.{Checked, numbered_of, refused_or}
use Rattle.answer.specs.Answer.{GOING_ON, number_of}
use Rattle.pace.specs.declared.Pace.{Pace}
use Rattle.mine_pass.specs.declared.MineTurn.{MineTurn}
use Rattle.mine_pass.specs.Pass.{marks_of}
use Rattle.mine.specs.declared.calls.MineAnswer.{MineAnswer}
use Rattle.host_state.specs.declared.mine_bytes.HostMine.{HostMine}
use Rattle.host_state.specs.Mine.{flags_of, host_of}
use Rattle.host.specs.declared.mine_calls.HostMineAnswer.{HostMineAnswer}
use Rattle.host.specs.declared.mine_calls.HostMinePassed.{HostMinePassed}

-- an answer with the host's state
abbrev pub answer_out : MineAnswer → HostMineAnswer
answer_out a = record { refusal = numbered_of a.refusal; game = host_of a.game }

-- a pass's answer by its number, with the marks that it leaves
abbrev pub turn_out : MineTurn → HostMinePassed
turn_out t =
    record {
      refusal = numbered_of t.passed.refusal;
      answer = number_of t.passed.answer;
      marks = marks_of t;
      game = host_of t.passed.game;
    }

-- refused: the number with its place, and the state as it came
abbrev pub refused : HostMine → Checked → HostMineAnswer
refused h n = record { refusal = numbered_of n; game = h }

-- a refused pass goes on, with state and marks as they came
abbrev pub refused_pass : HostMine → Pace → Checked → HostMinePassed
refused_pass h marks n = record { refusal = numbered_of n; answer = GOING_ON; marks = marks; game = h }

-- a call on a state
unfoldable pub hosted : HostMine → MineAnswer → HostMineAnswer
hosted h a = refused_or (flags_of h) (refused h) (answer_out a)

-- a pass
unfoldable pub hosted_pass : HostMine → Pace → MineTurn → HostMinePassed
hosted_pass h marks t = refused_or (flags_of h) (refused_pass h marks) (turn_out t)
