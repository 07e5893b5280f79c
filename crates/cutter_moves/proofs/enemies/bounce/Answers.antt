use mathlib.Core.Path.{ap, ◌∙◌}
use borrow.Author.Rules.{rules}
use lib.Dec.{eqb}
use mir.Facts.{to_z-of_z}
use mir.Syntax.{w8}
use mir.Val.{SFits}
use Rattle.cutter_ground.specs.Cells.{CB_BLACK}
use Rattle.cutter_state.proofs.Signs.{kept}
use Rattle.cutter_state.specs.WellFormed.{is_unit}
use Rattle.cutter_moves.proofs.Roaming.{turned-unit, bounce_seen}
use Rattle.cutter_moves.proofs.enemies.bounce.Goals as goal

pub go-requires : goal.go-requires
go-requires c =
    let fx : SFits w8 c.args.e.vx = search rules in
    let fy : SFits w8 c.args.e.vy = search rules in
    let p = kept c.turn-vx.result c.turn-vx.type_inv ∙ (simp (to_z-of_z fx) at c.turn-vx.ensures) in
    let q = kept c.turn-vy.result c.turn-vy.type_inv ∙ (simp (to_z-of_z fy) at c.turn-vy.ensures) in
    record {
      cells = c.requires.roams.cells;
      amid = c.requires.roams.amid;
      across = ap is_unit p ∙ turned-unit (eqb c.args.v.side CB_BLACK) c.args.e.vx c.requires.roams.across;
      along = ap is_unit q ∙ turned-unit (eqb c.args.v.vertical CB_BLACK) c.args.e.vy c.requires.roams.along;
    }

pub returns : goal.returns
returns c =
    let fx : SFits w8 c.args.e.vx = search rules in
    let fy : SFits w8 c.args.e.vy = search rules in
    let p = kept c.turn-vx.result c.turn-vx.type_inv ∙ (simp (to_z-of_z fx) at c.turn-vx.ensures) in
    let q = kept c.turn-vy.result c.turn-vy.type_inv ∙ (simp (to_z-of_z fy) at c.turn-vy.ensures) in
    simp (p, q) at c.go.ensures ∙ bounce_seen c.args.grid.now c.args.e c.args.v c.requires.seen
