use mathlib.Core.Path.{◌≡◌}
use mathlib.Core.Bool.{◌&&◌}
use Prim.Native.Nat.{◌-◌}
use Rattle.laws.specs.Lists.{all_below}
use Rattle.cutter_ground.specs.Cells.{CH, claimed_at, place}
use Rattle.cutter_check.proofs.rows_filled.Given as goal

abbrev pub invariant-loop-x : goal.invariant-loop-x
invariant-loop-x l = l.ok ≡ all_below l.x (λ x. claimed_at l.grid (place x 0) && claimed_at l.grid (place x (CH - 1)))
