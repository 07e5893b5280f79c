-- What it means that an entry is found the same: every part of it is the call's. Assumes nothing.
use mathlib.Core.Bool.{Bool, true, false, cond}
use mathlib.Core.List.{List, [], ◌∷◌}
use mathlib.Core.Path.{◌≡◌, refl, ap₂}
use Prim.Native.Nat.{ℕ, ◌+◌, ◌-◌}
use native.Mathlib.Omega.{arith}
use borrow.Author.Tests.{eqb-true}
use lib.Dec.{eqb, ltb}
use lib.ListN.{length}
use Rattle.std.specs.Prelude.{Option, None, Some}
use Rattle.refusal.specs.Refusal.{Checked, number_given, place_given}
use Rattle.trace_verdict.specs.declared.Head.{Head}
use Rattle.trace_verdict.specs.declared.Part.{Part}
use Rattle.trace_verdict.specs.declared.Part.TheVariants.{Same, Refusal, Place, Answer, State, Record, Result}
use Rattle.trace_verdict.specs.Compare.{RECORD, differ_from, first_difference, placed, theirs, rewritten, differing_or, place_told, compared, Agrees}

-- runs without a difference are the same
same_heads : (t : Bool) (k : ℕ) {x y : ℕ} {a b : List ℕ} {d : Option ℕ} → eqb x y ≡ t → cond t d (Some k) ≡ None → (d ≡ None → a ≡ b) → x ∷ a ≡ y ∷ b
same_heads true k {x} {y} q e f = ap₂ (λ (z : ℕ) (l : List ℕ). z ∷ l) (eqb-true x y q) (f e)
same_heads false k q e f = absurd (let z : ◌≡◌ {A = ℕ} 0 1 = cc in omega arith)

none_differ : (k : ℕ) (a b : List ℕ) → differ_from k a b ≡ None → a ≡ b
none_differ k [] [] e = refl
none_differ k [] (y ∷ b) e = absurd (let z : ◌≡◌ {A = ℕ} 0 1 = cc in omega arith)
none_differ k (x ∷ a) [] e = absurd (let z : ◌≡◌ {A = ℕ} 0 1 = cc in omega arith)
none_differ k (x ∷ a) (y ∷ b) e = same_heads (eqb x y) k refl e (none_differ (k + 1) a b)

same_runs : (a b : List ℕ) → first_difference a b ≡ None → a ≡ b
unfolding first_difference
same_runs a b e = none_differ 0 a b e

-- a choice that ends in Same took the way that can
chosen : (b : Bool) {x y : Part} → (y ≡ Same → ⊥) → cond b x y ≡ Same → (b ≡ true) × (x ≡ Same)
chosen true n e = (refl, e)
chosen false n e = absurd (n e)

passed : (b : Bool) {x y : Part} → (x ≡ Same → ⊥) → cond b x y ≡ Same → y ≡ Same
passed true n e = absurd (n e)
passed false n e = e

no_difference : (f : Option ℕ) {g : ℕ → Part} {p : Part} → ((i : ℕ) → g i ≡ Same → ⊥) → differing_or f g p ≡ Same → (f ≡ None) × (p ≡ Same)
no_difference (Some i) n e = absurd (n i e)
no_difference None n e = (refl, e)

no_refusal : Refusal ≡ Same → ⊥
no_refusal e = let z : ◌≡◌ {A = ℕ} 0 1 = cc in omega arith

no_place_told : Place ≡ Same → ⊥
no_place_told e = let z : ◌≡◌ {A = ℕ} 0 1 = cc in omega arith

no_answer : Answer ≡ Same → ⊥
no_answer e = let z : ◌≡◌ {A = ℕ} 0 1 = cc in omega arith

no_state : (i : ℕ) → State i ≡ Same → ⊥
no_state i e = let z : ◌≡◌ {A = ℕ} 0 1 = cc in omega arith

no_record : (i : ℕ) → Record i ≡ Same → ⊥
no_record i e = let z : ◌≡◌ {A = ℕ} 0 1 = cc in omega arith

no_result : (i : ℕ) → Result i ≡ Same → ⊥
no_result i e = let z : ◌≡◌ {A = ℕ} 0 1 = cc in omega arith

no_place : (b : Bool) (i j : ℕ) → cond b (State i) (Record j) ≡ Same → ⊥
no_place true i j e = no_state i e
no_place false i j e = no_record j e

no_placed : (n i : ℕ) → placed n i ≡ Same → ⊥
unfolding placed
no_placed n i e = no_place (ltb i (n - RECORD)) i (i - (n - RECORD)) e

-- an entry that is found the same agrees in every part
pub agrees : (h : Head) (current state result : List ℕ) (refusal : Checked) (answer : ℕ) (ours told : List ℕ) → compared h current state result refusal answer ours told ≡ Same
    → Agrees h current state result refusal answer ours told
unfolding compared
agrees h current state result refusal answer ours told e =
    let a : (eqb h.refusal (number_given refusal) ≡ true) × _ = chosen (eqb h.refusal (number_given refusal)) no_refusal e in
    let p : (eqb h.place (place_told (place_given refusal)) ≡ true) × _ = chosen (eqb h.place (place_told (place_given refusal))) no_place_told a.1 in
    let b : (eqb h.answer answer ≡ true) × _ = chosen (eqb h.answer answer) no_answer p.1 in
    let c : (first_difference (theirs current state) ours ≡ None) × _ = no_difference (first_difference (theirs current state) ours) (no_placed (length ours)) b.1 in
    let d : (first_difference result told ≡ None) × _ = no_difference (first_difference result told) no_result (passed (rewritten current state) (no_state 0) c.1) in
    record {
      refusals = eqb-true h.refusal (number_given refusal) a.0;
      places = eqb-true h.place (place_told (place_given refusal)) p.0;
      answers = eqb-true h.answer answer b.0;
      states = same_runs (theirs current state) ours c.0;
      results = same_runs result told d.0;
    }
