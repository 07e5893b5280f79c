-- Traces: what the calls of both games share.
use Rattle.refusal.specs.Refusal.{Checked}
use Rattle.std.specs.Prelude.{cond, List, [], ℕ, ◌-◌, eqb, ltb, length, replicate}
use Rattle.mine_state.specs.declared.Mine.{Mine}
use Rattle.cutter_state.specs.declared.Cutter.{Cutter}
use Rattle.pace.specs.declared.Pace.{Pace}
use Rattle.trace_words.specs.Numbers.{MARK, word_at, pair_in}
use Rattle.trace_states.specs.Mines.{mine_bytes}
use Rattle.trace_states.specs.Cutters.{cutter_bytes}
use Rattle.trace_verdict.specs.Compare.{RECORD, compared}
use Rattle.trace_verdict.specs.declared.Head.{Head}
use Rattle.trace_verdict.specs.declared.Part.{Part}
use Rattle.trace_verdict.specs.declared.Part.TheVariants.{Unread}

-- each byte of a frame before its picture, and more bytes than any part of an entry has
abbrev pub STALE : ℕ
STALE = 165

abbrev pub MOST : ℕ
MOST = 65536

-- the record at the end of a state
unfoldable pub marks_at : List ℕ → Pace
marks_at l = record { first = word_at MARK (length l - RECORD) l; second = word_at MARK (length l - MARK) l }

-- arguments of just n bytes, and of at least n; others can't be read
unfoldable pub exactly : ℕ → List ℕ → Part → Part
exactly n args p = cond (eqb (length args) n) p Unread

unfoldable pub at_least : ℕ → List ℕ → Part → Part
at_least n args p = cond (ltb (length args) n) Unread p

module _ (h : Head) (current state result : List ℕ) where
  -- a call that leaves state and record, and tells something
  abbrev pub stays : Checked → List ℕ → Part
  stays refusal told = compared h current state result refusal 0 current told

  -- a call that gives a state and a record, and tells nothing
  abbrev pub mine_told : Checked → ℕ → Mine → Pace → Part
  mine_told refusal answer m p = compared h current state result refusal answer (mine_bytes m p.first p.second) []

  abbrev pub cutter_told : Checked → ℕ → Cutter → Pace → Part
  cutter_told refusal answer c p = compared h current state result refusal answer (cutter_bytes c p.first p.second) []

  -- one that tells the cells which a search and a walk took, 2 bytes each
  abbrev pub cutter_made : Checked → ℕ → Cutter → Pace → ℕ → ℕ → Part
  cutter_made refusal answer c p searched walked = compared h current state result refusal answer (cutter_bytes c p.first p.second) (pair_in 2 searched walked)

  -- a picture: the refusal, and the frame after
  abbrev pub showed : Checked × List ℕ → Part
  showed f = stays f.0 f.1

-- the frame of n bytes before its picture
abbrev pub stale_of : ℕ → List ℕ
stale_of n = replicate n STALE
