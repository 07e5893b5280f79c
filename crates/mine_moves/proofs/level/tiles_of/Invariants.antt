use mathlib.Core.Path.{◌≡◌}
use Rattle.mine_moves.proofs.Reading.{tiled_to}
use Rattle.mine_moves.proofs.level.tiles_of.Given as goal

abbrev pub invariant-loop-at : goal.invariant-loop-at
invariant-loop-at l = l.grid ≡ tiled_to l.text l.at
