-- Each contract decides its outcome: a weakened one is refused here, beside its call. Assumes nothing.
use Rattle.std.proofs.Common.{Bool}
use Rattle.contracts.specs.Decides.{Decides}
use Rattle.contracts.proofs.Decides.{decided}
use Rattle.pace.specs.declared.Pace.{Pace}
use Rattle.pace.specs.declared.Ticks.{Ticks}
use Rattle.pace.specs.Pace.{started, due_at, both_ticks}
use Rattle.pace.specs.contracts.start as start
use Rattle.pace.specs.contracts.due as due
use Rattle.pace.specs.contracts.both_ticks as both_ticks

pub start_tight : {M : Type 1} → Decides M start.ended (λ 𝓤 𝓛. start.clauses 𝓛)
start_tight 𝓤 𝓛 mem run κs a g r r' s s' = decided 𝓤 (λ (z : Pace). (z, s)) r r' (started a.0)

pub due_tight : {M : Type 1} → Decides M due.ended (λ 𝓤 𝓛. due.clauses 𝓛)
due_tight 𝓤 𝓛 mem run κs a g r r' s s' = decided 𝓤 (λ (z : Bool). (z, s)) r r' (due_at a.0 a.1.0 a.1.1.0)

pub both_ticks_tight : {M : Type 1} → Decides M both_ticks.ended (λ 𝓤 𝓛. both_ticks.clauses 𝓛)
both_ticks_tight 𝓤 𝓛 mem run κs a g r r' s s' =
    decided 𝓤 (λ (z : Ticks). (z, s)) r r' (both_ticks a.0 a.1.0 a.1.1.0 a.1.1.1.0 a.1.1.1.1.0)
