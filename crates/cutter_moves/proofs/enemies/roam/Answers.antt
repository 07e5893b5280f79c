use mathlib.Core.Path.{sym, ◌∙◌}
use borrow.Author.Rules.{rules}
use mir.Facts.{to_z-of_z}
use mir.Syntax.{w8}
use mir.Val.{SFits}
use Rattle.cutter_moves.proofs.Roaming.{roam_clear, roam_line, roam_turned}
use Rattle.cutter_moves.proofs.enemies.roam.Goals as goal

pub returns-then-is_clear : goal.returns-then-is_clear
returns-then-is_clear c =
    let fx : SFits w8 c.args.e.vx = search rules in
    let fy : SFits w8 c.args.e.vy = search rules in
    let a = c.args in
    roam_clear a.grid.now a.e c.look-v.result c.look-v.ensures.0 (sym c.is_clear.ensures ∙ c.if-is_clear.true) c.put.result
    (simp (to_z-of_z fx, to_z-of_z fy) at c.put.ensures)

pub returns-then-is_line : goal.returns-then-is_line
returns-then-is_line c =
    let a = c.args in
    roam_line a.grid.now a.e c.look-v.result c.look-v.ensures.0 (sym c.is_line.ensures ∙ c.if-is_line.true)

pub returns : goal.returns
returns c =
    let a = c.args in
    roam_turned a.grid.now a.e c.look-v.result c.look-v.ensures.0 (sym c.is_line.ensures ∙ c.if-is_line.false) c.bounce.result c.bounce.ensures
