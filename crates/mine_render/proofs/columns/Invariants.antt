use mathlib.Core.Path.{◌≡◌}
use mathlib.Core.List.{◌++◌}
use lib.ListN.{drop, replicate}
use Rattle.laws.specs.Lists.{table}
use Rattle.bits.specs.Bits.{number, art_bit}
use Rattle.mine_render.proofs.columns.Given as goal

abbrev pub invariant-loop-gx : goal.invariant-loop-gx
invariant-loop-gx l = l.column-items ≡ table l.gx (λ i. number 8 (art_bit l.pat i)) ++ drop l.gx (replicate 8 0)
