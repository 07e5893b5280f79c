use mathlib.Core.Path.{◌∙◌}
use native.Mathlib.Omega.{arith}
use Rattle.laws.proofs.Table.{table_none}
use Rattle.mine_moves.proofs.Reading.{tiled_more, tiled_done}
use Rattle.mine_moves.proofs.level.tiles_of.Goals as goal

pub loop-at-init : goal.loop-at-init
loop-at-init c = table_none _ _

pub loop-at-preserved : goal.loop-at-preserved
loop-at-preserved c = rw (c.tile_of.ensures, c.loop-at.invariant) (tiled_more c.args.text.now c.loop-at.at c.loop-at-test.true)

pub returns : goal.returns
returns c = c.loop-at.invariant ∙ tiled_done c.args.text.now c.loop-at.at (omega arith)
