use mathlib.Core.List.{◌++◌}
use mathlib.Core.Path.{◌≡◌}
use lib.ListN.{drop, replicate}
use Rattle.laws.specs.Lists.{table}
use Rattle.cutter_rules.specs.Level.{drawn_mover}
use Rattle.cutter_ground.specs.Movers.{MAX_ENEMIES, blank_slot}
use Rattle.cutter_level.proofs.drawn_enemies.Given as goal

abbrev pub invariant-loop-i : goal.invariant-loop-i
invariant-loop-i l = l.out ≡ table l.i (drawn_mover l.draws) ++ drop l.i (replicate MAX_ENEMIES blank_slot)
