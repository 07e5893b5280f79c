-- Traces: the calls of Block Mine, 2 to 6 and 32.
use Rattle.std.specs.Prelude.{cond, List, ℕ, eqb, drop}
use Rattle.answer.specs.Answer.{number_of}
use Rattle.refusal.specs.Refusal.{NONE}
use Rattle.pace.specs.declared.Pace.{Pace}
use Rattle.pace.specs.Pace.{started}
use Rattle.mine_state.specs.declared.Mine.{Mine}
use Rattle.mine_pass.specs.Pass.{pass_at, marks_of}
use Rattle.mine_pass.specs.declared.MineTurn.{MineTurn}
use Rattle.mine.specs.Calls.{move_call, gravity_call, tick_call}
use Rattle.mine.specs.Picture.{picture_of}
use Rattle.mine.specs.declared.calls.MineAnswer.{MineAnswer}
use Rattle.trace_words.specs.Numbers.{MARK, byte_at, word_at}
use Rattle.trace_verdict.specs.declared.Head.{Head}
use Rattle.trace_verdict.specs.declared.Part.{Part}
use Rattle.trace_calls.specs.Either.{on_either}
use Rattle.trace_calls.specs.Shared.{exactly, at_least, mine_told, showed, stale_of}

module _ (h : Head) (args current state result : List ℕ) where
  abbrev pub answered : Pace → MineAnswer → Part
  answered p a = mine_told h current state result a.refusal 0 a.game p

  -- 2: the command, 1 byte
  unfoldable pub mine_moved : Mine → Pace → Part
  mine_moved m p = exactly 1 args (answered p (move_call m (byte_at 0 args)))

  -- 3
  unfoldable pub mine_fallen : Mine → Pace → Part
  mine_fallen m p = exactly 0 args (answered p (gravity_call m))

  -- 4
  unfoldable pub mine_ticked : Mine → Pace → Part
  mine_ticked m p = exactly 0 args (answered p (tick_call m))

  -- 5: reading, 4 bytes; then the keys
  abbrev pub turned : MineTurn → Part
  turned t = mine_told h current state result t.passed.refusal (number_of t.passed.answer) t.passed.game (marks_of t)

  unfoldable pub mine_passed : Mine → Pace → Part
  mine_passed m p = at_least MARK args (turned (pass_at m (drop MARK args) (word_at MARK 0 args) p.first p.second))

  -- 6: length of the frame, 2 bytes
  unfoldable pub mine_pictured : Mine → Part
  mine_pictured m = exactly 2 args (showed h current state result (picture_of m (stale_of (word_at 2 0 args))))

  -- 32: reading, 4 bytes
  unfoldable pub mine_started : Mine → Part
  mine_started m = exactly MARK args (mine_told h current state result NONE 0 m (started (word_at MARK 0 args)))

  -- call n on a state of Mine
  unfoldable pub mine_call : ℕ → Mine → Pace → Part
  mine_call n m p =
      cond (eqb n 2) (mine_moved m p)
      (cond (eqb n 3) (mine_fallen m p)
      (cond (eqb n 4) (mine_ticked m p)
      (cond (eqb n 5) (mine_passed m p)
      (cond (eqb n 6) (mine_pictured m)
      (cond (eqb n 32) (mine_started m)
      (on_either h args current state result p))))))

  -- the entry's own
  unfoldable pub on_mine : Mine → Pace → Part
  on_mine = mine_call h.call
