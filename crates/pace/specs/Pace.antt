-- Document 01, 'One pass, and the pacing record': when a tick is due.
use Rattle.std.specs.Prelude.{ℕ, ◌+◌, ◌-◌, ◌%◌, ◌^◌, Bool, cond, nat_le}
use Rattle.pace.specs.declared.Pace.{Pace}
use Rattle.pace.specs.declared.Ticks.{Ticks}

-- starting the record with a reading sets both marks
abbrev pub started : ℕ → Pace
started time = record { first = time; second = time }

-- the reading less its mark, wrapping at 2^32
abbrev pub since : ℕ → ℕ → ℕ
since time mark = (time + (2 ^ 32 - mark)) % 2 ^ 32

-- a tick is due when that reaches its interval
abbrev pub due_at : ℕ → ℕ → ℕ → Bool
due_at time mark interval = nat_le interval (since time mark)

-- then the mark becomes the reading
abbrev pub mark_after : Bool → ℕ → ℕ → ℕ
mark_after due time mark = cond due time mark

-- both ticks of a reading, each against its own mark and interval
abbrev pub both_ticks : (time first second interval interval2 : ℕ) → Ticks
both_ticks time first second interval interval2 =
    let due : Bool = due_at time first interval in
    let due2 : Bool = due_at time second interval2 in
    record { one = due; two = due2; first = mark_after due time first; second = mark_after due2 time second }
