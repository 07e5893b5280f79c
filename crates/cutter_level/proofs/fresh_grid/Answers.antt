use mathlib.Core.Path.{◌∙◌}
use Rattle.cutter_level.proofs.Ring.{ring_claimed}
use Rattle.cutter_level.proofs.fresh_grid.Goals as goal

pub returns : goal.returns
returns c =
    let top = c.fill.ensures.after (λ y e. e) in
    let bottom = rw top at (c.fill-2.ensures.after (λ y e. e)) in
    c.claim_columns.ensures ∙ ring_claimed _ _ top bottom
