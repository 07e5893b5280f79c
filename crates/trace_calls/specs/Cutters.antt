-- Traces: the calls of Block Cutter, 18 to 25, 29 and 32.
use Rattle.std.specs.Prelude.{cond, List, ◌++◌, ℕ, ◌+◌, eqb, take, drop}
use Rattle.answer.specs.Answer.{number_of}
use Rattle.refusal.specs.Refusal.{NONE}
use Rattle.pace.specs.declared.Pace.{Pace}
use Rattle.pace.specs.Pace.{started}
use Rattle.cutter_state.specs.declared.Cutter.{Cutter}
use Rattle.cutter_pass.specs.Pass.{pass_at, marks_of}
use Rattle.cutter_pass.specs.declared.CutterTurn.{CutterTurn}
use Rattle.cutter.specs.Calls.{level_call, direction_call, step_call, sweeps_call, enemies_call, respawn_call, report_call}
use Rattle.cutter.specs.Picture.{picture_of}
use Rattle.cutter.specs.declared.calls.CutterAnswer.{CutterAnswer}
use Rattle.cutter.specs.declared.calls.Ground.{Ground}
use Rattle.trace_words.specs.Numbers.{MARK, byte_at, word_at, pair_in}
use Rattle.trace_verdict.specs.declared.Head.{Head}
use Rattle.trace_verdict.specs.declared.Part.{Part}
use Rattle.trace_calls.specs.Either.{on_either}
use Rattle.trace_calls.specs.Shared.{exactly, at_least, stays, cutter_told, cutter_made, showed, stale_of}

-- a reading and a number of keys stand before the keys of a pass
abbrev pub BEFORE_KEYS : ℕ
BEFORE_KEYS = 6

module _ (h : Head) (args current state result : List ℕ) where
  abbrev pub answered : Pace → CutterAnswer → Part
  answered p a = cutter_told h current state result a.refusal 0 a.game p

  abbrev pub made : Pace → CutterAnswer → Part
  made p a = cutter_made h current state result a.refusal 0 a.game p a.searched a.walked

  -- 18: the command, 1 byte
  unfoldable pub cutter_directed : Cutter → Pace → Part
  cutter_directed c p = exactly 1 args (answered p (direction_call c (byte_at 0 args)))

  -- 19
  unfoldable pub cutter_stepped : Cutter → Pace → Part
  cutter_stepped c p = exactly 0 args (made p (step_call c))

  -- 20
  unfoldable pub cutter_ticked : Cutter → Pace → Part
  cutter_ticked c p = exactly 0 args (answered p (enemies_call c))

  -- 21
  unfoldable pub cutter_respawned : Cutter → Pace → Part
  cutter_respawned c p = exactly 0 args (made p (respawn_call c))

  -- 22: the draws
  unfoldable pub cutter_levelled : Cutter → Pace → Part
  cutter_levelled c p = answered p (level_call c args)

  -- 23: reading, 4 bytes; number of keys, 2 bytes; the keys; then the draws
  abbrev pub turned : CutterTurn → Part
  turned t =
      cutter_made h current state result t.passed.refusal (number_of t.passed.answer) t.passed.game (marks_of t) t.passed.searched t.passed.walked

  abbrev pub key_count : ℕ
  key_count = word_at 2 MARK args

  unfoldable pub cutter_passed : Cutter → Pace → Part
  cutter_passed c p =
      at_least BEFORE_KEYS args
      (at_least (BEFORE_KEYS + key_count) args
      (turned (pass_at c (take key_count (drop BEFORE_KEYS args)) (drop (BEFORE_KEYS + key_count) args) (word_at MARK 0 args) p.first p.second)))

  -- 24: length of the frame, 2 bytes
  unfoldable pub cutter_pictured : Cutter → Part
  cutter_pictured c = exactly 2 args (showed h current state result (picture_of c (stale_of (word_at 2 0 args))))

  -- 25: black, claimed, line, share, 2 bytes each
  abbrev pub ground_told : Ground → Part
  ground_told g = stays h current state result g.refusal (pair_in 2 g.black g.claimed ++ pair_in 2 g.line g.share)

  unfoldable pub cutter_reported : Cutter → Part
  cutter_reported c = exactly 0 args (ground_told (report_call c))

  -- 29
  unfoldable pub cutter_swept : Cutter → Pace → Part
  cutter_swept c p = exactly 0 args (made p (sweeps_call c))

  -- 32: reading, 4 bytes
  unfoldable pub cutter_started : Cutter → Part
  cutter_started c = exactly MARK args (cutter_told h current state result NONE 0 c (started (word_at MARK 0 args)))

  -- call n on a state of Cutter
  unfoldable pub cutter_call : ℕ → Cutter → Pace → Part
  cutter_call n c p =
      cond (eqb n 18) (cutter_directed c p)
      (cond (eqb n 19) (cutter_stepped c p)
      (cond (eqb n 20) (cutter_ticked c p)
      (cond (eqb n 21) (cutter_respawned c p)
      (cond (eqb n 22) (cutter_levelled c p)
      (cond (eqb n 23) (cutter_passed c p)
      (cond (eqb n 24) (cutter_pictured c)
      (cond (eqb n 25) (cutter_reported c)
      (cond (eqb n 29) (cutter_swept c p)
      (cond (eqb n 32) (cutter_started c)
      (on_either h args current state result p))))))))))

  -- the entry's own
  unfoldable pub on_cutter : Cutter → Pace → Part
  on_cutter = cutter_call h.call
