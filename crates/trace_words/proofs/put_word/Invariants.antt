use mathlib.Core.Path.{◌≡◌}
use Prim.Native.Nat.{◌/◌, ◌^◌}
use lib.ListN.{take}
use Rattle.trace_words.specs.Numbers.{bytes_in}
use Rattle.trace_words.proofs.put_word.Given as goal

abbrev pub invariant-loop-byte : goal.invariant-loop-byte
invariant-loop-byte l = (l.rest ≡ l.n / 256 ^ l.byte-index) × (take l.byte-index l.byte-items ≡ bytes_in l.byte-index l.n)
