use native.Mathlib.Omega.{arith}
use mathlib.Core.Path.{sym, ◌∙◌}
use Rattle.cutter_moves.proofs.Roaming.{going_roams, going_more, going_dead, going_end}
use Rattle.cutter_moves.proofs.enemies.tick.Goals as goal

pub roam-requires : goal.roam-requires
roam-requires c =
    let a = c.args in
    going_roams a.grid.now a.enemies a.count c.loop-i.out c.loop-i.i _ c.loop-i.invariant.1 c.loop-i.invariant.0 c.requires c.loop-i-test.true

pub returns-in_default : goal.returns-in_default
returns-in_default c =
    let a = c.args in
    going_dead a.grid.now a.enemies a.count c.loop-i.out c.loop-i.i _ c.loop-i.invariant.1 c.loop-i.invariant.0 c.loop-i-test.true
    (sym c.in_default.is ∙ c.roam.ensures)

pub loop-i-preserved : goal.loop-i-preserved
loop-i-preserved c =
    let a = c.args in (
      omega arith,
      going_more a.grid.now a.enemies a.count c.loop-i.out c.loop-i.i _ c.loop-i.invariant.1 c.loop-i.invariant.0 c.loop-i-test.true c.in-Some.to
          (sym c.in-Some.is ∙ c.roam.ensures),
    )

pub returns : goal.returns
returns c =
    let a = c.args in
    going_end a.grid.now a.enemies a.count c.loop-i.out c.loop-i.i c.loop-i.invariant.1 c.loop-i.invariant.0 (omega arith)
