use native.Mathlib.Omega.{arith}
use Rattle.laws.proofs.Table.{table_none, table_more}
use Rattle.mine_render.proofs.columns.Goals as goal

pub loop-gx-init : goal.loop-gx-init
loop-gx-init c = table_none _ _

pub loop-gx-preserved : goal.loop-gx-preserved
loop-gx-preserved c = rw (c.loop-gx.invariant, c.column.ensures) (table_more _ _ _ 0 (omega arith))
