-- How many sweeps there can be: each but the last brings the sum of the numbers down. Assumes nothing.
use mathlib.Core.Path.{◌≡◌, subst}
use mathlib.Core.List.{List, [], ◌∷◌}
use mathlib.Core.Logic.{⊎_elim}
use Prim.Native.Nat.{ℕ, suc, ◌*◌, ◌≤◌, ◌<◌}
use native.Mathlib.Omega.{arith}
use lib.ListN.{length, get_or}
use Rattle.cutter_ground.specs.Cells.{CN}
use Rattle.cutter_joined.proofs.Joined.{black?}
use Rattle.cutter_joined.proofs.Labels.{total}
use Rattle.cutter_sweeps.specs.Sweeps.{Sweeps}
use Rattle.cutter_sweeps.proofs.Low.{sweeps-low}

total_most : (l : List ℕ) (b d : ℕ) → ((i : ℕ) → i < length l → get_or l i d ≤ b) → total l ≤ length l * b
unfolding total
total_most [] b d h = omega arith
total_most (x ∷ xs) b d h = omega (arith, h 0 (omega arith), total_most xs b d (λ i k. h (suc i) (omega arith)))

pub sweeps-most : {g L : List ℕ} → length g ≡ CN → Sweeps g L → total L ≤ CN * CN
sweeps-most {g} {L} long s =
    let l = sweeps-low long s in
    let each : (i : ℕ) → i < length L → get_or L i CN ≤ CN = λ i h. ⊎_elim (λ k. omega (arith, l.small i k, l.len)) (λ k. omega (arith, l.other i k)) (black? g i) in
    subst (λ (n : ℕ). total L ≤ n * CN) l.len (total_most L CN CN each)
