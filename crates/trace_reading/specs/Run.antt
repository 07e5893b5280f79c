-- Traces: a run over the entries. What an entry counts for.
use Rattle.std.specs.Prelude.{ℕ, ◌+◌, ◌%◌, Bool, true, false, cond, not, ◌&&◌, List, take, ◌==◌, slice_index, slice_range}
use Rattle.laws.specs.Lists.{bit}
use Rattle.trace_words.specs.Numbers.{word_at}
use Rattle.trace_verdict.specs.declared.Head.{Head}
use Rattle.trace_verdict.specs.declared.Part.{Part}
use Rattle.trace_verdict.specs.declared.Part.TheVariants.{Same, Unread, Refusal, Place, Answer, State, Record, Result}
use Rattle.trace_reading.specs.declared.reading.Shape.{Shape}
use Rattle.trace_reading.specs.declared.reading.Run.{Run}
use Rattle.trace_reading.specs.Entry.{judged}

-- the bytes of a header
abbrev pub HEADER : ℕ
HEADER = 12

-- what a header tells: call, refusal and answer, in its first bytes, and the refusal's place, in its last two
abbrev pub head_of : List ℕ → Head
head_of l = record { call = slice_index l 0; refusal = slice_index l 1; place = word_at 2 10 l; answer = slice_index l 2 }

-- the bytes from a up to b
abbrev pub between : ℕ → ℕ → List ℕ → List ℕ
between a b l = slice_range l a b

-- what is found of an entry: its arguments, state and result stand one behind the other; one that isn't whole can't be read
unfoldable pub found_of : Shape → (body current : List ℕ) → Part
found_of e body current =
    cond e.whole
    (judged e.head (take e.args body) current (between e.args (e.args + e.state) body)
    (between (e.args + e.state) (e.args + e.state + e.result) body))
    Unread

abbrev pub is_same : Part → Bool
is_same Same = true
is_same Unread = false
is_same Refusal = false
is_same Place = false
is_same Answer = false
is_same (State i) = false
is_same (Record i) = false
is_same (Result i) = false

abbrev pub is_unread : Part → Bool
is_unread Same = false
is_unread Unread = true
is_unread Refusal = false
is_unread Place = false
is_unread Answer = false
is_unread (State i) = false
is_unread (Record i) = false
is_unread (Result i) = false

-- numbers of 64 bits, which no run uses up
abbrev pub wrapped : ℕ → ℕ
wrapped n = n % 18446744073709551616

-- the run after an entry: a call where it is whole and makes one, a difference where it isn't the same
unfoldable pub after_of : Run → Shape → Part → ℕ → Run
after_of run e part state =
    record {
      entries = wrapped (run.entries + 1);
      offset = wrapped (run.offset + (HEADER + e.args + e.state + e.result));
      calls = wrapped (run.calls + bit (e.whole && not (e.head.call == 0)));
      differ = wrapped (run.differ + bit (not (is_same part)));
      state = state;
    }
