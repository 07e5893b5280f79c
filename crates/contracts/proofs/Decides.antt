-- A contract that says one fact of an outcome decides it where two outcomes with the fact are one. Assumes nothing.
use mathlib.Core.Path.{◌≡◌, sym, ap, ◌∙◌}
use seplogic.Ra.Ura.{Ura}
use base.Logic.{ent}
use contract.Monad.{conj, conj_l, conj_r, fact, fact_i, fact_use}

pub both_facts : {M : Type 1} (𝓤 : Ura M) (φ ψ χ : Type 0) → (φ → ψ → χ) → ent 𝓤 (conj 𝓤 (fact 𝓤 φ) (fact 𝓤 ψ)) (fact 𝓤 χ)
both_facts 𝓤 φ ψ χ f =
    fact_use 𝓤 φ (conj_l 𝓤 (fact 𝓤 φ) (fact 𝓤 ψ)) (λ p.
    fact_use 𝓤 ψ (conj_r 𝓤 (fact 𝓤 φ) (fact 𝓤 ψ)) (λ q. fact_i 𝓤 χ (conj 𝓤 (fact 𝓤 φ) (fact 𝓤 ψ)) (f p q)))

-- the fact is an equation with what is promised; `whole` makes the outcome of what the equation is about
pub decided : {M : Type 1} (𝓤 : Ura M) {A B : Type 0} (whole : A → B) (x y promised : A)
    → ent 𝓤 (conj 𝓤 (fact 𝓤 (x ≡ promised)) (fact 𝓤 (y ≡ promised))) (fact 𝓤 (whole x ≡ whole y))
decided 𝓤 whole x y promised = both_facts 𝓤 (x ≡ promised) (y ≡ promised) (whole x ≡ whole y) (λ p q. ap whole (p ∙ sym q))
