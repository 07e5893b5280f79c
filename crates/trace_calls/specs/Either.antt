-- Traces: the calls that either state allows, 1, 7, 17, 26 and 33.
use Rattle.std.specs.Prelude.{cond, List, [], ℕ, eqb, drop}
use Rattle.refusal.specs.Refusal.{NONE, clear}
use Rattle.frame.specs.Frame.{page_of}
use Rattle.pace.specs.declared.Pace.{Pace}
use Rattle.mine_rules.specs.Load.{loaded}
use Rattle.cutter.specs.Calls.{round_call}
use Rattle.cutter.specs.declared.calls.CutterAnswer.{CutterAnswer}
use Rattle.trace_words.specs.Numbers.{PLACE, word_at}
use Rattle.trace_verdict.specs.declared.Head.{Head}
use Rattle.trace_verdict.specs.declared.Part.{Part}
use Rattle.trace_verdict.specs.declared.Part.TheVariants.{Unread}
use Rattle.trace_questions.specs.Asked.{mine_asked, mover_asked}
use Rattle.trace_calls.specs.Shared.{exactly, at_least, stays, mine_told, cutter_told}

module _ (h : Head) (args current state result : List ℕ) where
  -- 1: Mine's load; the record is kept
  unfoldable pub mine_loaded : Pace → Part
  mine_loaded p = exactly 0 args (mine_told h current state result NONE 0 loaded p)

  -- 17: a new round by its draws; the record is kept, and where it is refused the state too
  abbrev pub begun : Pace → CutterAnswer → Part
  begun p a = cond (clear a.refusal) (cutter_told h current state result NONE 0 a.game p) (stays h current state result a.refusal [])

  unfoldable pub round_begun : Pace → Part
  round_begun p = begun p (round_call args)

  -- 33: page, its number, 8 bytes; then the frame
  unfoldable pub page_told : Part
  page_told = at_least PLACE args (stays h current state result NONE (page_of (drop PLACE args) (word_at PLACE 0 args)))

  -- call n, of those that either state allows
  unfoldable pub either_call : ℕ → Pace → Part
  either_call n p =
      cond (eqb n 1) (mine_loaded p)
      (cond (eqb n 7) (mine_asked h args current state result)
      (cond (eqb n 17) (round_begun p)
      (cond (eqb n 26) (mover_asked h args current state result)
      (cond (eqb n 33) page_told
      Unread))))

  -- the entry's own
  unfoldable pub on_either : Pace → Part
  on_either = either_call h.call
