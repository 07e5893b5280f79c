-- Block Cutter: a step that closes its cut by sweeps, the trainer's way.
use Rattle.std.specs.Prelude.{List, cond, false, ℕ}
use Rattle.cutter_closing.specs.declared.Cut.{Cut}
use Rattle.cutter_state.specs.declared.Cutter.{Cutter}
use Rattle.cutter_closing.specs.Counted.{MAX_COMP}
use Rattle.cutter_ground.specs.declared.Mover.{Mover}
use Rattle.cutter_rules.specs.Step.{at_border, closes, entered, stepped, target}
use Rattle.cutter_closing.specs.Closing.{claim_line, closed}
use Rattle.cutter_state.specs.State.{creatures}
use Rattle.cutter_sweeps.proofs.Low.{settled}
use Rattle.cutter_state.specs.Change.{with_creatures, with_grid, with_trailing}

-- the closing of the grid g by the numbers that sweeps leave
abbrev pub swept_cut : ℕ → List ℕ → List Mover → Cut
swept_cut limit g es = closed limit (claim_line g) (settled (claim_line g)).0 es

-- closes the cut so: trailing ends, the direction stays
unfoldable pub cut_swept : Cutter → Cutter
cut_swept c =
    let cut = swept_cut MAX_COMP c.grid (creatures c) in
    with_trailing (with_creatures (with_grid c cut.grid) cut.enemies cut.count) false

-- a step that closes a cut closes it so; any other is the step as it is
unfoldable pub swept_step : Cutter → Cutter
swept_step c = cond (closes c) (at_border (cut_swept (entered c (target c)))) (stepped c)
