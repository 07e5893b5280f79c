use mathlib.Core.List.{map}
use mathlib.Core.Path.{sym, ◌∙◌}
use Prim.Native.Nat.{◌<◌}
use native.Mathlib.Omega.{arith}
use lib.ListN.{length, length-set, length-map, get_or-map}
use Rattle.laws.proofs.Lists.{fill_more}
use Rattle.host_state.specs.Flags.{flag_of}
use Rattle.host_state.proofs.mine_bytes.marks_of.Goals as goal

pub loop-i-preserved : goal.loop-i-preserved
loop-i-preserved c =
    let l = c.args.bytes.now in
    let i = c.loop-i.i in
    let b : i < length (map flag_of l) = omega (arith, length-map l flag_of, c.requires, c.loop-i-test.true) in (
      simp length-set c.loop-i.invariant.0,
      fill_more c.loop-i.out (map flag_of l) i c.flag_of.result _ (omega (arith, c.loop-i.invariant.0, c.requires, c.loop-i-test.true)) b c.loop-i.invariant.1
          (c.flag_of.ensures ∙ sym (get_or-map flag_of l i 0)),
    )
