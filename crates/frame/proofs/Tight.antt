-- The contract decides the bytes of the part that is answered. Assumes nothing.
use mathlib.Core.List.{List}
use Prim.Native.Nat.{ℕ}
use Rattle.contracts.specs.Decides.{DecidesOf}
use Rattle.contracts.proofs.Decides.{decided}
use Rattle.frame.specs.Frame.{page_of}
use Rattle.frame.specs.contracts.page as page

pub page_tight : {M : Type 1} → DecidesOf M page.ended (λ κs. List ℕ) (λ κs r. r.now) (λ 𝓤 𝓛. page.clauses 𝓛)
page_tight 𝓤 𝓛 mem run κs a g r r' s s' = decided 𝓤 (λ (z : List ℕ). (z, s)) r.now r'.now (page_of a.0.now a.1.0)
