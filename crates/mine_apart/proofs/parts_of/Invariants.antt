use mathlib.Core.List.{map}
use mathlib.Core.Path.{◌≡◌}
use lib.ListN.{length, take}
use Rattle.mine_state.specs.State.{MAX_ENEMIES}
use Rattle.mine_apart.specs.CodeApart.{dir_of, spots_from}
use Rattle.mine_apart.proofs.parts_of.Given as goal

abbrev pub invariant-loop-i : goal.invariant-loop-i
invariant-loop-i l =
    (length l.spots ≡ MAX_ENEMIES) × (length l.dirs ≡ MAX_ENEMIES) ×
    (take l.i l.spots ≡ take l.i (spots_from l.count l.fn.enemies)) × (take l.i l.dirs ≡ take l.i (map dir_of l.fn.enemies))
