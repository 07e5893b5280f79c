use mathlib.Core.List.{◌++◌}
use mathlib.Core.Path.{◌≡◌}
use lib.ListN.{drop}
use Rattle.laws.specs.Lists.{table}
use Rattle.cutter_ground.specs.Cells.{cell_at}
use Rattle.cutter_sweeps.specs.Sweeps.{own_of}
use Rattle.cutter_sweeps.proofs.own_numbers.Given as goal

abbrev pub invariant-loop-i : goal.invariant-loop-i
invariant-loop-i l = l.nums ≡ table l.i (λ c. own_of (cell_at l.grid c) c) ++ drop l.i l.initial.nums
