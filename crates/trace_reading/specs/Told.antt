-- Traces: what a replay tells of the entries that it has read.
use Rattle.std.specs.Prelude.{◌≡◌, ℕ, ◌≤◌, Bool, cond, not, ◌&&◌, List, [], ◌∷◌, length, ◌==◌}
use Rattle.laws.specs.Lists as L
use Rattle.trace_verdict.specs.declared.Part.{Part}
use Rattle.trace_reading.specs.declared.reading.Shape.{Shape}
use Rattle.trace_reading.specs.declared.reading.Run.{Run}
use Rattle.trace_reading.specs.Run.{found_of, is_same, is_unread, wrapped, after_of}

-- an entry as it was read: its header and lengths, its bytes, and the current state, on which its call is made
pub record Entry : Type 0 where
  pub shape : Shape
  pub body : List ℕ
  pub current : List ℕ

module _ (x : Entry) where
  abbrev pub verdict : Part
  verdict = found_of x.shape x.body x.current

  -- it is whole, and makes a call
  abbrev pub makes_call : Bool
  makes_call = x.shape.whole && not (x.shape.head.call == 0)

  abbrev pub differs : Bool
  differs = not (is_same verdict)

  -- it can't be read
  abbrev pub unread : Bool
  unread = is_unread verdict

-- the length of the current state after an entry with a state of s bytes, and n bytes before it
abbrev pub length_after : (s n : ℕ) → ℕ
length_after s n = cond (s == 0) n s

-- the run after an entry
unfoldable pub after_entry : Run → Entry → Run
after_entry run x = after_of run x.shape (verdict x) (length_after x.shape.state (length x.current))

-- and after all of them, one by one
abbrev pub run_over : Run → List Entry → Run
run_over run [] = run
run_over run (x ∷ xs) = run_over (after_entry run x) xs

-- before the first
abbrev pub begun : Run
begun = record { entries = 0; offset = 0; calls = 0; differ = 0; state = 0 }

-- the run that a replay makes over the entries that it reads, of which one at most can't be read
pub record Replayed (es : List Entry) (run : Run) : Type 0 where
  pub ran : run ≡ run_over begun es
  pub ended : L.count unread es ≤ 1

abbrev pub Ran : Run → Type 0
Ran run = (es : List Entry) × Replayed es run

-- the counts of a run are those of its entries, as numbers of 64 bits; one that can't be read counts among those that differ
pub record Counted (es : List Entry) (run : Run) : Type 0 where
  pub entries : run.entries ≡ wrapped (length es)
  pub calls : run.calls ≡ wrapped (L.count makes_call es)
  pub differ : run.differ ≡ wrapped (L.count differs es)
  pub unreads : L.count unread es ≤ L.count differs es
