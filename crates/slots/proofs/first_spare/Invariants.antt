use mathlib.Core.Path.{◌≡◌}
use lib.ListN.{drop}
use Rattle.refusal.specs.Faults.{first_fault, spare_fault}
use Rattle.slots.proofs.first_spare.Given as goal

abbrev pub invariant-loop-k : goal.invariant-loop-k
invariant-loop-k g l =
    first_fault (spare_fault (λ a. g.T.PartialEq.eq a l.blank)) l.k (drop l.k l.slots) ≡ first_fault (spare_fault (λ a. g.T.PartialEq.eq a l.blank)) l.n (drop l.n l.slots)
