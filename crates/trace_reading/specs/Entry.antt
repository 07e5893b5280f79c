-- Traces: an entry. Its number says which call is made on the current state, and what it tells is compared with what the call gives.
use Rattle.std.specs.Prelude.{ℕ, Bool, cond, ◌&&◌, ◌||◌, List, length, ◌==◌}
use Rattle.trace_states.specs.Mines.{MINE, mine_of}
use Rattle.trace_states.specs.Cutters.{CUTTER, cutter_of}
use Rattle.trace_verdict.specs.declared.Head.{Head}
use Rattle.trace_verdict.specs.declared.Part.{Part}
use Rattle.trace_verdict.specs.declared.Part.TheVariants.{Same, Unread}
use Rattle.trace_calls.specs.Shared.{marks_at}
use Rattle.trace_calls.specs.Mines.{on_mine}
use Rattle.trace_calls.specs.Cutters.{on_cutter}

module _ (h : Head) (args current state result : List ℕ) where
  -- a state has the length of one of the games
  abbrev pub is_state : ℕ → Bool
  is_state n = n == MINE || n == CUTTER

  -- 0: the current state becomes the one given, and nothing else is told
  unfoldable pub set_to : Part
  set_to = cond (((h.refusal == 0 && h.place == 0) && h.answer == 0) && ((length args == 0 && length result == 0) && is_state (length state))) Same Unread

  -- an entry on the current state, whose length says which game it is of
  unfoldable pub judged : Part
  judged =
      cond (h.call == 0) set_to
      (cond (length state == 0 || is_state (length state))
      (cond (length current == MINE) (on_mine h args current state result (mine_of current) (marks_at current))
      (cond (length current == CUTTER) (on_cutter h args current state result (cutter_of current) (marks_at current)) Unread))
      Unread)
