use native.Mathlib.Omega.{arith}
use Prim.Native.Nat.{◌<◌}
use lib.ListN.{length}
use Rattle.console_keys.proofs.Heard.{keys_more, waits_more, keys_end, waits_end}
use Rattle.console_keys.proofs.hear.Goals as goal

pub loop-byte-preserved : goal.loop-byte-preserved
loop-byte-preserved c =
    let s = c.loop-byte in
    let h : s.byte-index < length s.byte-items = omega arith in (
      rw (c.heard_key.ensures, c.waits_after-open.ensures) (keys_more s.byte-items s.byte-index s.«open» h s.invariant.0),
      rw (c.heard_key.ensures, c.waits_after-open.ensures) (waits_more s.byte-items s.byte-index s.«open» h _ s.invariant.1),
    )

pub returns-clause-value : goal.returns-clause-value
returns-clause-value c = waits_end c.loop-byte.byte-items c.loop-byte.byte-index c.loop-byte.«open» (omega arith) c.loop-byte.invariant.1

pub returns-clause-bytes_after : goal.returns-clause-bytes_after
returns-clause-bytes_after c = keys_end c.loop-byte.byte-items c.loop-byte.byte-index c.loop-byte.«open» (omega arith) c.loop-byte.invariant.0
