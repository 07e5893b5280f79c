use mathlib.Core.Path.{ap₂, ◌∙◌}
use native.Mathlib.Omega.{arith}
use Rattle.laws.proofs.Lists.{get_or_default}
use Rattle.cutter_ground.specs.Cells.{CN}
use Rattle.cutter_sweeps.specs.Sweeps.{lower, low}
use Rattle.cutter_sweeps.proofs.lowest.Goals as goal

pub returns : goal.returns
unfolding low
returns c =
    let to = lower c.args.grid.now c.args.nums.now in
    let down = c.lower_by-v.ensures ∙ ap₂ to c.down_of.ensures (get_or_default c.args.nums.now c.args.at 0 CN (omega (arith, c.requires, c.requires.numbers))) in
    let up = c.lower_by-v-2.ensures ∙ ap₂ to c.up_of.ensures down in
    let right = c.lower_by-v-3.ensures ∙ ap₂ to c.right_of.ensures up in
    c.lower_by.ensures ∙ ap₂ to c.left_of.ensures right
