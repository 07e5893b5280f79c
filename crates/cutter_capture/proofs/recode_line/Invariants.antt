use mathlib.Core.List.{◌++◌, map}
use mathlib.Core.Path.{◌≡◌}
use lib.ListN.{take, drop}
use Rattle.cutter_capture.specs.CodeSteps.{recoded}
use Rattle.cutter_capture.proofs.recode_line.Given as goal

abbrev pub invariant-loop-cell : goal.invariant-loop-cell
invariant-loop-cell l = take l.cell-index l.grid ++ map (recoded l.to) (drop l.cell-index l.grid) ≡ map (recoded l.to) l.initial.grid
