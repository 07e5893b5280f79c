use mathlib.Core.Path.{◌≡◌}
use Prim.Native.Nat.{◌-◌}
use lib.ListN.{length}
use Rattle.laws.specs.Lists.{across}
use Rattle.cutter_ground.specs.Cells.{CH, CN}
use Rattle.cutter_level.specs.CodeRing.{claim_column}
use Rattle.cutter_level.proofs.claim_columns.Given as goal

abbrev pub invariant-loop-y : goal.invariant-loop-y
invariant-loop-y l = (length l.grid ≡ CN) × (across claim_column (CH - l.y) l.y l.grid ≡ across claim_column CH 0 l.initial.grid)
