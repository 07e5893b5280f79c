use mathlib.Core.Path.{sym, ◌∙◌}
use Rattle.cutter_border.proofs.Walking.{walk_start, walk_found, walk_turn, walk_none}
use Rattle.cutter_border.proofs.seek.Goals as goal

pub loop-head-init : goal.loop-head-init
loop-head-init c = walk_start c.requires

pub returns-then-on_border : goal.returns-then-on_border
returns-then-on_border c = walk_found c.loop-head.invariant c.loop-head-test.true (sym c.on_border.ensures ∙ c.if-on_border.true)

pub loop-head-preserved : goal.loop-head-preserved
loop-head-preserved c =
    walk_turn c.loop-head.invariant c.loop-head-test.true
    (sym c.on_border.ensures ∙ c.if-on_border.false) c.around-tail.ensures

pub returns : goal.returns
returns c = walk_none c.loop-head.invariant c.loop-head-test.false
