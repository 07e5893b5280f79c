-- A turn takes the run over the entry that it read, or leaves it. Assumes nothing.
use Rattle.std.proofs.Common.{◌≡◌, ℕ, zero, suc, ◌+◌, ◌≤◌, Bool, true, false, cond, not, List, [], ◌∷◌, ◌++◌, refl, sym, ap, ◌∙◌, ⊎_elim, arith}
use mathlib.Core.Bool.{false≢true}
use Rattle.laws.specs.Lists.{count}
use Rattle.laws.proofs.Counts.{count-append}
use Rattle.trace_reading.specs.declared.reading.Run.{Run}
use Rattle.trace_reading.specs.declared.reading.Turned.{Turned}
use Rattle.trace_reading.specs.Told.{Entry, unread, after_entry, begun}
use Rattle.trace_reading.specs.CodeTurns.{Takes, entry_of, Turns, Reads, SomeRead}
use Rattle.trace_reading.proofs.Told.{run_more}

-- of the entry behind them
one_at_most : (b : Bool) (n : ℕ) → n ≡ 0 → n + cond b (suc zero) zero ≤ 1
one_at_most true n z = omega arith
one_at_most false n z = omega arith

none : (b : Bool) (n : ℕ) → n ≡ 0 → not b ≡ true → n + cond b (suc zero) zero ≡ 0
none true n z e = absurd (false≢true e)
none false n z e = omega arith

one_more : (es : List Entry) (run : Run) (x : Entry) (t : Turned) → Reads es run true → Takes run x t → Reads (es ++ (x ∷ [])) t.run t.more
one_more es run x t r p =
    let z = r.readable refl in
    record {
      ran = p.next ∙ ap (λ (s : Run). after_entry s x) r.ran ∙ sym (run_more begun es x);
      ended = rw (count-append unread es (x ∷ [])) (one_at_most (unread x) (count unread es) z);
      readable = λ e. rw (count-append unread es (x ∷ [])) (none (unread x) (count unread es) z (sym p.more ∙ e));
    }

pub turned : (run : Run) (body current : List ℕ) (t : Turned) → SomeRead run true → Turns run body current t → SomeRead t.run t.more
turned run body current t s =
    ⊎_elim
    (λ p. (s.0, record { ran = p.0 ∙ s.1.ran; ended = s.1.ended; readable = λ e. s.1.readable refl }))
    (λ p. let x = entry_of p.0 body current in (s.0 ++ (x ∷ []), one_more s.0 run x t s.1 p.1))

-- more may be read unless it is said that there is none
pub goes_on : (run : Run) (more : Bool) → not more ≡ false → SomeRead run more → SomeRead run true
goes_on run true e s = s
goes_on run false e s = absurd (false≢true (sym e))
