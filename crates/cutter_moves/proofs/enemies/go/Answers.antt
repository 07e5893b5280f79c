use mathlib.Core.Path.{sym, ap, ◌∙◌}
use native.Mathlib.Omega.{arith}
use borrow.Author.Tests.{eq-eqb, ne_eqb}
use mir.Facts.{to_z-of_z}
use Rattle.laws.proofs.Lists.{get_or_default}
use Rattle.cutter_ground.specs.Cells.{CB_FILLED}
use Rattle.cutter_rules.specs.Ahead.{side_of}
use Rattle.cutter_rules.proofs.Tick.{gone-there, gone-not}
use Rattle.cutter_moves.proofs.enemies.go.Goals as goal

pub returns-then-grid-to-eq-CB_BLACK : goal.returns-then-grid-to-eq-CB_BLACK
returns-then-grid-to-eq-CB_BLACK c =
    let fx = to_z-of_z c.ranges.vx in
    let fy = to_z-of_z c.ranges.vy in
    let p = simp (c.cell_of.ensures, fx, fy) at (c.side_in-to.ensures.0 ∙ ap (side_of _) c.vertical_in-above.ensures.0) in
    let d = get_or_default c.args.grid.now c.side_in-to.result 0 CB_FILLED (omega (arith, c.side_in-to.ensures.1, c.requires.cells)) in
    simp (c.put.ensures, fx, fy)
    (gone-there c.args.grid.now c.args.e c.args.vx c.args.vy _ p (eq-eqb _ _ (sym d ∙ c.if-grid-to-eq-CB_BLACK.true)))

pub returns : goal.returns
returns c =
    let fx = to_z-of_z c.ranges.vx in
    let fy = to_z-of_z c.ranges.vy in
    let p = simp (c.cell_of.ensures, fx, fy) at (c.side_in-to.ensures.0 ∙ ap (side_of _) c.vertical_in-above.ensures.0) in
    let d = get_or_default c.args.grid.now c.side_in-to.result 0 CB_FILLED (omega (arith, c.side_in-to.ensures.1, c.requires.cells)) in
    simp (fx, fy)
    (gone-not c.args.grid.now c.args.e c.args.vx c.args.vy _ p (ne_eqb _ _ (λ q. c.if-grid-to-eq-CB_BLACK.false (d ∙ q))))
