-- What a replay counts: the counts of its run are those of its entries. Assumes nothing.
use Rattle.std.proofs.Common.{◌≡◌, ℕ, suc, ◌+◌, ◌≤◌, Bool, true, false, cond, not, List, [], ◌∷◌, ◌++◌, length, sym, refl, ap, ◌∙◌, arith}
use Rattle.laws.specs.Lists.{bit, count}
use Rattle.trace_verdict.specs.declared.Part.{Part}
use Rattle.trace_verdict.specs.declared.Part.TheVariants.{Same, Unread, Refusal, Place, Answer, State, Record, Result}
use Rattle.trace_reading.specs.declared.reading.Run.{Run}
use Rattle.trace_reading.specs.Run.{is_same, is_unread, wrapped, after_of}
use Rattle.trace_reading.specs.Told.{Entry, verdict, makes_call, differs, unread, after_entry, run_over, begun, Counted}

-- a number that is raised by 1 at each entry that passes a test
module _ (field : Run → ℕ) (test : Entry → Bool) (step : (run : Run) (x : Entry) → field (after_entry run x) ≡ wrapped (field run + bit (test x))) where
  one_more : (b : Bool) (n c : ℕ) → wrapped (wrapped (n + bit b) + c) ≡ wrapped (n + cond b (suc c) c)
  one_more true n c = omega arith
  one_more false n c = omega arith

  raised : (run : Run) (es : List Entry) → wrapped (field run) ≡ field run → field (run_over run es) ≡ wrapped (field run + count test es)
  raised run [] h = sym h ∙ ap wrapped (omega arith)
  raised run (x ∷ es) h =
      raised (after_entry run x) es (rw (step run x) (omega arith))
      ∙ ap (λ (n : ℕ). wrapped (n + count test es)) (step run x)
      ∙ one_more (test x) (field run) (count test es)

  from_zero : (es : List Entry) → field begun ≡ 0 → field (run_over begun es) ≡ wrapped (count test es)
  from_zero es z = raised begun es (rw z) ∙ ap wrapped (rw z (omega arith))

each : (es : List Entry) → count (λ (x : Entry). true) es ≡ length es
each [] = refl
each (x ∷ es) = ap suc (each es)

-- what can't be read isn't the same
not_same : (p : Part) → bit (is_unread p) ≤ bit (not (is_same p))
not_same Same = omega arith
not_same Unread = omega arith
not_same Refusal = omega arith
not_same Place = omega arith
not_same Answer = omega arith
not_same (State i) = omega arith
not_same (Record i) = omega arith
not_same (Result i) = omega arith

no_more : (a b : Bool) (m n : ℕ) → bit a ≤ bit b → m ≤ n → cond a (suc m) m ≤ cond b (suc n) n
no_more true true m n h k = omega arith
no_more true false m n h k = omega arith
no_more false true m n h k = omega arith
no_more false false m n h k = omega arith

unread-differ : (es : List Entry) → count unread es ≤ count differs es
unread-differ [] = omega arith
unread-differ (x ∷ es) = no_more (unread x) (differs x) (count unread es) (count differs es) (not_same (verdict x)) (unread-differ es)

pub counted : (es : List Entry) → Counted es (run_over begun es)
unfolding after_entry after_of
counted es =
    record {
      entries = from_zero (λ run. run.entries) (λ x. true) (λ run x. refl) es refl ∙ ap wrapped (each es);
      calls = from_zero (λ run. run.calls) makes_call (λ run x. refl) es refl;
      differ = from_zero (λ run. run.differ) differs (λ run x. refl) es refl;
      unreads = unread-differ es;
    }

-- one more entry
pub run_more : (run : Run) (es : List Entry) (x : Entry) → run_over run (es ++ (x ∷ [])) ≡ after_entry (run_over run es) x
run_more run [] x = refl
run_more run (y ∷ es) x = run_more (after_entry run y) es x
