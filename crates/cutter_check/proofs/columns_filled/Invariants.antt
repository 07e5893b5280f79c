use mathlib.Core.Path.{◌≡◌}
use mathlib.Core.Bool.{◌&&◌}
use Prim.Native.Nat.{◌-◌}
use Rattle.laws.specs.Lists.{all_below}
use Rattle.cutter_ground.specs.Cells.{CW, claimed_at, place}
use Rattle.cutter_check.proofs.columns_filled.Given as goal

abbrev pub invariant-loop-y : goal.invariant-loop-y
invariant-loop-y l = l.ok ≡ all_below l.y (λ y. claimed_at l.grid (place 0 y) && claimed_at l.grid (place (CW - 1) y))
