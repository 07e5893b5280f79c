use mathlib.Core.Path.{◌≡◌}
use Prim.Native.Nat.{◌+◌, ◌-◌, ◌^◌, ◌<◌, ◌≤◌}
use Rattle.trace_words.specs.Numbers.{word_at}
use Rattle.trace_words.proofs.word.Given as goal

abbrev pub invariant-loop-i : goal.invariant-loop-i
invariant-loop-i l = (l.at ≤ l.i) × (l.n ≡ word_at (l.at + l.k - l.i) l.i l.bytes) × (l.n < 256 ^ (l.at + l.k - l.i))
