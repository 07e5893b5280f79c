-- Loops over a state: one turn of a fold. Assumes nothing.
use mathlib.Core.Path.{◌≡◌, refl, ◌∙◌, ap, subst}
use Prim.Native.Nat.{ℕ, zero, suc, ◌+◌, ◌-◌, ◌<◌, ◌≤◌}
use native.Mathlib.Omega.{arith}
use Rattle.laws.specs.Lists.{across, down_to}

module _ {S : Type 0} (step : S → ℕ → S) where
  -- a loop that counts i up to n: what is left to do from s is R
  pub across-more : (n i : ℕ) (s : S) {R : S} → i < n → across step (n - i) i s ≡ R → across step (n - (i + 1)) (i + 1) (step s i) ≡ R
  across-more n i s {R} h e =
      let q : n - i ≡ suc (n - (i + 1)) = omega arith in
      subst (λ (k : ℕ). across step k i s ≡ R) q e

  -- the same where what the step gives is known
  pub across_turn : (n i : ℕ) (s s' : S) {R : S} → i < n → step s i ≡ s' → across step (n - i) i s ≡ R → across step (n - (i + 1)) (i + 1) s' ≡ R
  across_turn n i s s' {R} h q e = subst (λ (t : S). across step (n - (i + 1)) (i + 1) t ≡ R) q (across-more n i s h e)

  pub across_end : (n i : ℕ) (s : S) {R : S} → n ≤ i → across step (n - i) i s ≡ R → s ≡ R
  across_end n i s {R} h e =
      let q : n - i ≡ 0 = omega arith in
      subst (λ (k : ℕ). across step k i s ≡ R) q e

  -- a loop that counts k down to 0
  pub down-more : (k : ℕ) (s : S) {R : S} → 0 < k → down_to step k s ≡ R → down_to step (k - 1) (step s (k - 1)) ≡ R
  down-more k s {R} h e =
      let q : k ≡ suc (k - 1) = omega arith in
      subst (λ (j : ℕ). down_to step j s ≡ R) q e

  pub down_end : (k : ℕ) (s : S) {R : S} → k ≤ 0 → down_to step k s ≡ R → s ≡ R
  down_end k s {R} h e =
      let q : k ≡ 0 = omega arith in
      subst (λ (j : ℕ). down_to step j s ≡ R) q e

-- what each step keeps, the fold keeps
pub across-keeps : {S : Type 0} (step : S → ℕ → S) (P : S → Type 0) (n k i : ℕ) (s : S) → k + i ≤ n → ((t : S) (j : ℕ) → j < n → P t → P (step t j)) → P s → P (across step k i s)
across-keeps step P n zero i s h f p = p
across-keeps step P n (suc k) i s h f p = across-keeps step P n k (i + 1) (step s i) (omega arith) f (f s i (omega arith) p)

pub down-keeps : {S : Type 0} (step : S → ℕ → S) (P : S → Type 0) (n k : ℕ) (s : S) → k ≤ n → ((t : S) (j : ℕ) → j < n → P t → P (step t j)) → P s → P (down_to step k s)
down-keeps step P n zero s h f p = p
down-keeps step P n (suc k) s h f p = down-keeps step P n k (step s k) (omega arith) f (f s k (omega arith) p)

-- where no step changes a state, the fold leaves it
pub across-still : {S : Type 0} (step : S → ℕ → S) (n k i : ℕ) (s : S) → k + i ≤ n → ((j : ℕ) → j < n → step s j ≡ s) → across step k i s ≡ s
across-still step n zero i s h f = refl
across-still step n (suc k) i s h f = ap (across step k (i + 1)) (f i (omega arith)) ∙ across-still step n k (i + 1) s (omega arith) f
