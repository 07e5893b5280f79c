use native.Mathlib.Omega.{arith}
use lib.ListN.{length-set}
use Rattle.laws.proofs.Folds.{across-more}
use Rattle.cutter_ground.specs.Cells.{CH}
use Rattle.cutter_level.specs.CodeRing.{claim_column}
use Rattle.cutter_level.proofs.claim_columns.Goals as goal

pub loop-y-preserved : goal.loop-y-preserved
unfolding claim_column
loop-y-preserved c =
    (simp length-set c.loop-y.invariant.0, across-more claim_column CH c.loop-y.y c.loop-y.grid (omega arith) c.loop-y.invariant.1)
