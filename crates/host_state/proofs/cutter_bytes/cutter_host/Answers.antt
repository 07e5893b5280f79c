use mathlib.Core.Path.{◌∙◌}
use mir.Syntax.{w8}
use mir.Val.{SFits}
use mir.Facts.{to_z-of_z}
use borrow.Author.Rules.{rules}
use Rattle.host_state.proofs.Back.{from_flag}
use Rattle.host_state.specs.Cutter.{host_of}
use Rattle.host_state.proofs.cutter_bytes.cutter_host.Goals as goal

pub returns : goal.returns
unfolding host_of
returns c =
    let a = c.args.c in
    let fx : SFits w8 a.dx = search rules in
    let fy : SFits w8 a.dy = search rules in
    rw (c.from.ensures ∙ from_flag a.trailing, c.from-2.ensures ∙ from_flag a.dead, c.from-3.ensures ∙ from_flag a.won_level, to_z-of_z fx, to_z-of_z fy)
