-- The search of a step's closing: its cells, and that they are at most those inside the ring. Assumes nothing.
use mathlib.Core.Bool.{true, false}
use mathlib.Core.Logic.{⊎_elim}
use mathlib.Core.Path.{◌≡◌}
use Prim.Native.Nat.{◌≤◌}
use native.Mathlib.Omega.{arith}
use Rattle.laws.proofs.Choice.{cond_both, bool_cases}
use Rattle.cutter_ground.specs.Cells.{CN, INNER}
use Rattle.cutter_closing.specs.Counted.{MAX_COMP, counted}
use Rattle.cutter_closing.specs.Cost.{searched_of, cells_of}
use Rattle.cutter_closing.proofs.Cost.{search_cost}
use Rattle.cutter_state.specs.declared.Cutter.{Cutter}
use Rattle.cutter_state.specs.WellFormed.{WellFormed}
use Rattle.cutter_rules.specs.Step.{closes}
use Rattle.cutter_rules.specs.Cost.{step_searched, step_walked}
use Rattle.cutter_keeps.specs.Cost.{regions_of, CostKept}
use Rattle.cutter_keeps.proofs.Inner.{black-most}
use Rattle.cutter_keeps.proofs.Nearest.{nearest-kept}

searched-sum : (c : Cutter) → closes c ≡ true → step_searched c ≡ cells_of (regions_of c) (counted MAX_COMP (regions_of c))
unfolding step_searched searched_of
searched-sum c e = rw e (search_cost.sum MAX_COMP (regions_of c))

searched-most : (c : Cutter) → WellFormed c → step_searched c ≤ INNER
unfolding step_searched
searched-most c w =
    cond_both (λ n. n ≤ INNER) (closes c) (searched_of MAX_COMP c.grid) 0
    (λ _. omega (arith, search_cost.black MAX_COMP c.grid w.cells, black-most c w)) (λ _. omega arith)

nothing_taken : (c : Cutter) → closes c ≡ false → (step_searched c ≡ 0) × (step_walked c ≡ 0)
unfolding step_searched step_walked
nothing_taken c e = (rw e, rw e)

walked-most : (c : Cutter) → WellFormed c → step_walked c ≤ CN
walked-most c w = ⊎_elim (λ e. (nearest-kept.closing c w e).most) (λ e. omega (arith, (nothing_taken c e).1)) (bool_cases (closes c))

pub cost-kept : CostKept
cost-kept = record { searched = searched-sum; most = searched-most; walked = walked-most; none = nothing_taken }
