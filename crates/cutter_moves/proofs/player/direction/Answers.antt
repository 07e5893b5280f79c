use borrow.Author.Rules.{rules}
use Rattle.cutter_rules.specs.Step.{unit_x, unit_y}
use Rattle.cutter_moves.proofs.Stepping.{left_else}
use Rattle.cutter_moves.proofs.player.direction.Goals.{in-0, in-1, in-2, in_default}
use Rattle.cutter_moves.proofs.player.direction.Goals as goal

pub returns : goal.returns
unfolding unit_x unit_y
returns c = elim c.match-dir.branch [
  | in-0 w ↦ rw (w.in-0.is, w.dx-is)
  | in-1 w ↦ rw (w.in-1.is, w.dx-is)
  | in-2 w ↦ rw (w.in-2.is, w.dx-is)
  | in_default w ↦ let e = left_else c.args.dir (search rules) (search rules) (search rules) in rw (w.dx-is, e.0, e.1)
]
