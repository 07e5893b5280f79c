-- A call that is refused, one that is answered, and two checks in order. Assumes nothing.
use Rattle.std.specs.Prelude.{Ok, Err}
use mathlib.Core.Bool.{Bool, true, false}
use mathlib.Core.Path.{◌≡◌, refl, sym, ap, ◌∙◌, subst}
use Rattle.laws.proofs.Choice.{cond_both, and_left, and_right}
use Rattle.refusal.specs.declared.Refusal.{Refusal}
use Rattle.refusal.specs.Refusal.{Checked, number_given, clear, unless, ◌then◌, refused_or}
use Rattle.refusal.proofs.Checks.{clear_then, clear_of, zero_of, unclear, nonzero}

-- where the first check gives a number, that stands; else the second's
pub then_first : (n k : Checked) → (number_given n ≡ 0 → ⊥) → (n then k) ≡ n
then_first n k h = rw (unclear n h)

pub then_second : (n k : Checked) → number_given n ≡ 0 → (n then k) ≡ k
then_second n k e = rw (clear_of n e)

-- two checks that give no number: neither does; and a check that gives none has passed
pub then_none : (n k : Checked) → number_given (n then k) ≡ 0 → (number_given n ≡ 0) × (number_given k ≡ 0)
then_none n k e =
    let both = sym (clear_then n k) ∙ clear_of (n then k) e in
    (zero_of n (and_left (clear n) (clear k) both), zero_of k (and_right (clear n) (clear k) both))

pub unless-none : (b : Bool) (r : Refusal) → number_given (unless b (Err r)) ≡ 0 → b ≡ true
unless-none true r e = refl
unless-none false r e = absurd (nonzero (Err r) refl e)

-- what one refusal has no number for, an equal one has none for
pub none_of : {no n : Checked} → no ≡ n → number_given no ≡ 0 → number_given n ≡ 0
none_of e z = subst (λ (r : Checked). number_given r ≡ 0) e z

-- what a check gave, by the arm that its answer took
pub ok_zero : {n : Checked} {u : Unit {0}} → n ≡ Ok u → number_given n ≡ 0
ok_zero e = ap number_given e

pub err_some : {n : Checked} {r : Refusal} → n ≡ Err r → number_given n ≡ 0 → ⊥
err_some {n} {r} e z = nonzero (Err r) refl (none_of e z)

module _ {A : Type 0} (refused : Checked → A) (answer : A) where
  pub refused_by : (n : Checked) → (number_given n ≡ 0 → ⊥) → refused_or n refused answer ≡ refused n
  refused_by n h = rw (unclear n h)

  pub answered_by : (n : Checked) → number_given n ≡ 0 → refused_or n refused answer ≡ answer
  answered_by n e = rw (clear_of n e)

  -- what holds of the answer, and of each refusal by its number, holds of what a call gives
  pub refused_or-answered : (P : A → Type 0) (n : Checked) → ((number_given n ≡ 0 → ⊥) → P (refused n)) → (number_given n ≡ 0 → P answer) → P (refused_or n refused answer)
  refused_or-answered P n f g = cond_both P (clear n) answer (refused n) (λ e. g (zero_of n e)) (λ e. f (nonzero n e))

  -- a call once its first check is done: that gave `no`, which is n
  module _ {no n : Checked} (e : no ≡ n) where
    -- where it alone decides
    pub turned_away : {r : Refusal} → no ≡ Err r → refused (Err r) ≡ refused_or n refused answer
    turned_away q = ap refused (sym q ∙ e) ∙ sym (refused_by n (err_some (sym e ∙ q)))

    pub let_in : {r : A} {u : Unit {0}} → r ≡ answer → no ≡ Ok u → r ≡ refused_or n refused answer
    let_in q z = q ∙ sym (answered_by n (ok_zero (sym e ∙ z)))

    -- where a second check follows
    pub turned_away_first : (k : Checked) {r : Refusal} → no ≡ Err r → refused (Err r) ≡ refused_or (n then k) refused answer
    turned_away_first k q = rw (then_first n k (err_some (sym e ∙ q))) (turned_away q)

    pub by_second : (k : Checked) {u : Unit {0}} → no ≡ Ok u → refused_or k refused answer ≡ refused_or (n then k) refused answer
    by_second k z = ap (λ j. refused_or j refused answer) (sym (then_second n k (ok_zero (sym e ∙ z))))
