use mathlib.Core.Path.{◌∙◌, ap}
use Prim.Native.Nat.{◌+◌}
use native.Mathlib.Omega.{arith}
use lib.ListN.{drop}
use Rattle.laws.proofs.Lists.{drop-one, drop_end}
use Rattle.cutter_check.specs.CodePasses.{largest_of}
use Rattle.cutter_check.proofs.Codes.{largest_more, largest_end}
use Rattle.cutter_check.proofs.largest.Goals as goal

pub loop-code-preserved : goal.loop-code-preserved
loop-code-preserved c =
    let l = c.args.grid.now in
    let i = c.loop-code.code-index in
    ap (λ n. largest_of n (drop (i + 1) l)) c.max-most.ensures
    ∙ largest_more l i c.loop-code.most (drop-one l i 0 (omega (arith, c.requires, c.loop-code-test.true))) c.loop-code.invariant

pub returns : goal.returns
returns c =
    let l = c.args.grid.now in
    largest_end l c.loop-code.code-index c.loop-code.most (drop_end l c.loop-code.code-index (omega (arith, c.requires, c.loop-code.auto.code-index-end, c.loop-code-test.false))) c.loop-code.invariant
