use mir.Syntax.{w8}
use mir.Val.{SFits}
use mir.Facts.{to_z-of_z}
use borrow.Author.Rules.{rules}
use Rattle.host_state.specs.Cutter.{game_of}
use Rattle.host_state.proofs.cutter_bytes.cutter_game.Goals as goal

pub returns : goal.returns
unfolding game_of
returns c =
    let a = c.args.h in
    let fx : SFits w8 a.dx = search rules in
    let fy : SFits w8 a.dy = search rules in
    rw (c.flag_of.ensures, c.flag_of-2.ensures, c.flag_of-3.ensures, to_z-of_z fx, to_z-of_z fy)
