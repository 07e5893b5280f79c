use native.Mathlib.Omega.{arith}
use borrow.Author.Rules.{rules}
use mir.Facts.{to_z-of_z}
use mir.Syntax.{w8}
use mir.Val.{SFits}
use Rattle.cutter_capture.specs.CodeSteps.{cut_of}
use Rattle.cutter_moves.proofs.Applied.{stays}
use Rattle.cutter_moves.proofs.Stepping.{on_grid_lem, shut-closes, shut-standing, walk-few, shut-makes, left-makes}
use Rattle.cutter_moves.proofs.player.step_in.Goals as goal

pub step_on-to-requires : goal.step_on-to-requires
step_on-to-requires c =
    let h = on_grid_lem c.args.game.now c.requires in
    record { cells = c.requires.cells; across = h.across; down = h.down; few = c.requires.few }

pub close-herd-requires : goal.close-herd-requires
close-herd-requires c =
    shut-closes c.args.game.now c.requires _ c.step_on-to.result _ c.step_on-to.ensures (stays c.args.game.now (search rules) (search rules)) c.if-to.true

pub move_to_border-end-requires : goal.move_to_border-end-requires
move_to_border-end-requires c =
    let e = stays c.args.game.now (search rules) (search rules) in
    shut-standing c.args.game.now c.requires _ c.step_on-to.result _ c.step_on-to.ensures e c.if-to.true
    (cut_of c.close-herd.new.grid c.close-herd.result) c.close-herd.ensures.cut

pub overflow_cast-result : goal.overflow_cast-result
overflow_cast-result c =
    let e = stays c.args.game.now (search rules) (search rules) in
    omega (
      arith,
      walk-few c.args.game.now c.requires _ c.step_on-to.result _ c.step_on-to.ensures e c.if-to.true
          (cut_of c.close-herd.new.grid c.close-herd.result) c.close-herd.ensures.cut c.move_to_border-end.result c.move_to_border-end.ensures,
    )

pub returns-then-to : goal.returns-then-to
returns-then-to c =
    let e = stays c.args.game.now (search rules) (search rules) in
    shut-makes c.args.game.now c.requires _ c.step_on-to.result _ c.step_on-to.ensures e c.if-to.true
    (cut_of c.close-herd.new.grid c.close-herd.result) c.close-herd.ensures.cut c.move_to_border-end.result c.move_to_border-end.ensures
    c.close-herd.result.searched c.close-herd.ensures.cost

pub returns : goal.returns
returns c =
    let fx : SFits w8 c.step_on-to.result.dx = search rules in
    let fy : SFits w8 c.step_on-to.result.dy = search rules in
    let e = stays c.args.game.now (search rules) (search rules) in
    rw (to_z-of_z fx, to_z-of_z fy) (left-makes c.args.game.now _ c.step_on-to.result _ c.step_on-to.ensures e c.if-to.false)
