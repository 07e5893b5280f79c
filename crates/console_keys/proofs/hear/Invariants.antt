use mathlib.Core.List.{◌++◌}
use mathlib.Core.Path.{◌≡◌}
use lib.ListN.{take, drop}
use Rattle.console_keys.specs.Keys.{keys_of, waits_of}
use Rattle.console_keys.proofs.hear.Given as goal

abbrev pub invariant-loop-byte : goal.invariant-loop-byte
invariant-loop-byte l =
    (take l.byte-index l.byte-items ++ keys_of l.open (drop l.byte-index l.byte-items) ≡ keys_of l.waits l.initial.byte-items) ×
    (waits_of l.open (drop l.byte-index l.byte-items) ≡ waits_of l.waits l.initial.byte-items)
