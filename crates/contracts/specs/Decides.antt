-- Document 01, 'How tight the promises are': two outcomes that satisfy a call's contract coincide. A contract is what the kit makes of the clauses
-- that stand at a function FN: `FN.ended` has its types, `FN.clauses` what is asked and what is said, in every model of the kit's logic.
use Rattle.std.specs.Prelude.{◌≡◌}
use seplogic.Ra.Ura.{Ura}
use base.Logic.{SProp, ent}
use prog.Memory.{Memory}
use prog.Routine.{Routine}
use types.Logic.{Logic}
use contract.Lifetimes.{Lfts}
use contract.Monad.{Fun, conj, fact}
use denote.Triple.Entry.{Args, Res}
use denote.Triple.Clauses.{Ended, Clauses, Lasts, at_exit}

module _ (M : Type 1) (T : Ended) where
  abbrev pub Contract : Type 2
  Contract = (𝓤 : Ura M) (𝓛 : Logic 𝓤) → (Memory → SProp 𝓤) → (Routine → Fun 𝓤) → Clauses 𝓤 T

  abbrev pub Lives : Type 0
  Lives = Lfts T.signature.lifetimes

  abbrev pub Answer : Lives → Type 0
  Answer κs = Res T.signature κs

  -- for any arguments a: where the contract says what it says of the answer r, with the values s at the end of what is lent, and of r' with s', they are the same;
  -- `told` is what is compared of an answer
  abbrev pub DecidesOf : (B : Lives → Type 0) → ((κs : Lives) → Answer κs → B κs) → Contract → Type 2
  DecidesOf B told c =
      (𝓤 : Ura M) (𝓛 : Logic 𝓤) (mem : Memory → SProp 𝓤) (run : Routine → Fun 𝓤)
      (κs : Lives) (a : Args T.signature κs) (g : (c 𝓤 𝓛 mem run κs a).ghost) (r r' : Answer κs) (s s' : Lasts T κs a)
      → ent 𝓤 (conj 𝓤 ((c 𝓤 𝓛 mem run κs a).ensures g r (at_exit T κs a s)) ((c 𝓤 𝓛 mem run κs a).ensures g r' (at_exit T κs a s')))
      (fact 𝓤 (◌≡◌ {A = B κs × Lasts T κs a} (told κs r, s) (told κs r', s')))

  -- the whole answer
  abbrev pub Decides : Contract → Type 2
  Decides c = DecidesOf Answer (λ κs r. r) c
