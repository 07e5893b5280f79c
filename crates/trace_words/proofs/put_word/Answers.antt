use native.Mathlib.Omega.{arith}
use mathlib.Core.Path.{refl, ap}
use Prim.Native.Nat.{◌/◌, ◌%◌, ◌^◌}
use Rattle.laws.specs.Lists.{table}
use Rattle.trace_words.specs.Numbers.{bytes_in}
use Rattle.trace_words.proofs.Bytes.{rest-none, rest_more}
use Rattle.trace_words.proofs.Runs.{filled_more}
use Rattle.trace_words.proofs.put_word.Goals as goal

pub loop-byte-init : goal.loop-byte-init
unfolding bytes_in table
loop-byte-init c = (rest-none c.args.n, refl)

pub loop-byte-preserved : goal.loop-byte-preserved
unfolding bytes_in
loop-byte-preserved c =
    let s = c.loop-byte in
    let n = c.args.n in
    let p = s.invariant in
    (rest_more n s.byte-index p.0, filled_more (λ j. n / 256 ^ j % 256) s.byte-items s.byte-index _ (omega arith) (ap (λ r. r % 256) p.0) p.1)
