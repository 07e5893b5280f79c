-- What a turn makes of the run, and what the loop of turns keeps.
use Rattle.std.specs.Prelude.{◌≡◌, ℕ, ◌≤◌, Bool, true, false, not, ◌⊎◌, List}
use Rattle.laws.specs.Lists as L
use Rattle.trace_reading.specs.declared.reading.Shape.{Shape}
use Rattle.trace_reading.specs.declared.reading.Run.{Run}
use Rattle.trace_reading.specs.declared.reading.Turned.{Turned}
use Rattle.trace_reading.specs.Told.{Entry, unread, after_entry, begun, run_over}

-- the run after the entry x; no more where it can't be read
pub record Takes (run : Run) (x : Entry) (t : Turned) : Type 0 where
  pub next : t.run ≡ after_entry run x
  pub more : t.more ≡ not (unread x)

-- an entry with these bytes, on this current state
abbrev pub entry_of : Shape → (body current : List ℕ) → Entry
entry_of e b c = record { shape = e; body = b; current = c }

-- the trace is over, or an entry was read
abbrev pub Turns : Run → (body current : List ℕ) → Turned → Type 0
Turns run body current t = ((t.run ≡ run) × (t.more ≡ false)) ⊎ ((e : Shape) × Takes run (entry_of e body current) t)

-- the entries so far; while there may be more, each of them could be read
pub record Reads (es : List Entry) (run : Run) (more : Bool) : Type 0 where
  pub ran : run ≡ run_over begun es
  pub ended : L.count unread es ≤ 1
  pub readable : more ≡ true → L.count unread es ≡ 0

abbrev pub SomeRead : Run → Bool → Type 0
SomeRead run more = (es : List Entry) × Reads es run more
