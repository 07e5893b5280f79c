use mathlib.Core.Bool.{false}
use mathlib.Core.List.{map}
use mathlib.Core.Path.{sym, ◌∙◌}
use Prim.Native.Nat.{◌<◌}
use native.Mathlib.Omega.{arith}
use lib.ListN.{length, length-set, length-map, get_or, get_or-map}
use Rattle.laws.proofs.Lists.{fill_more}
use Rattle.host_state.proofs.Back.{from_flag}
use Rattle.host_state.specs.Flags.{byte_of}
use Rattle.host_state.proofs.mine_bytes.bytes_of.Goals as goal

pub loop-i-preserved : goal.loop-i-preserved
loop-i-preserved c =
    let l = c.args.marks.now in
    let i = c.loop-i.i in
    let b : i < length (map byte_of l) = omega (arith, length-map l byte_of, c.requires, c.loop-i-test.true) in (
      simp length-set c.loop-i.invariant.0,
      fill_more c.loop-i.out (map byte_of l) i c.from.result _ (omega (arith, c.loop-i.invariant.0, c.requires, c.loop-i-test.true)) b c.loop-i.invariant.1
          (c.from.ensures ∙ from_flag (get_or l i false) ∙ sym (get_or-map byte_of l i false)),
    )
