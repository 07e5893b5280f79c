use mathlib.Core.Path.{◌≡◌}
use Rattle.mine_rules.specs.Load.{unread, read_from}
use Rattle.mine_moves.proofs.Reading.{tiled_to, so_far}
use Rattle.mine_moves.proofs.level.mine_of.Given as goal

abbrev pub invariant-loop-at : goal.invariant-loop-at
invariant-loop-at l = read_from l.text l.at (so_far (tiled_to l.text l.at) l.px l.py l.enemies l.count) ≡ read_from l.text 0 unread
