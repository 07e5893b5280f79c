use mathlib.Core.Path.{sym, ◌∙◌, ap}
use mathlib.Core.List.{List}
use native.Mathlib.Omega.{arith}
use lib.ListN.{get_or, set}
use Rattle.mine_state.specs.declared.Enemy.{Enemy}
use Rattle.mine_apart.specs.CodeApart.{creature}
use Rattle.mine_apart.proofs.Joined.{joined_begins, joined-more}
use Rattle.mine_apart.proofs.enemies_of.Goals as goal

pub loop-i-init : goal.loop-i-init
loop-i-init c = joined_begins c.args.spots.now c.args.dirs.now c.requires.slots c.requires.ways

pub loop-i-preserved : goal.loop-i-preserved
loop-i-preserved c =
    let a = c.args in
    let p = c.requires in
    let i = c.loop-i.i in
    let l = p.ways ∙ sym p.slots in
    ap (λ (t : List Enemy). set t i (creature (get_or a.spots.now i 0) (get_or a.dirs.now i 0))) c.loop-i.invariant
    ∙ joined-more i a.spots.now a.dirs.now l (omega (arith, p.few, p.slots))
