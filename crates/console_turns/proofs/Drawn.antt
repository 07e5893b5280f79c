-- The turns of the loop that makes draws of bytes in place. Assumes nothing.
use lib.Dec.{eqb}
use Rattle.laws.proofs.Choice.{cond_both}
use Rattle.cutter_rules.specs.Level.{DRAWS_EACH}
use mathlib.Core.List.{List, ◌++◌, append-nil}
use mathlib.Core.Path.{◌≡◌, sym, ◌∙◌}
use Prim.Native.Nat.{ℕ, suc, ◌+◌, ◌%◌, ◌<◌}
use native.Mathlib.Numerals.{add-one}
use native.Mathlib.Omega.{arith}
use lib.ListN.{length, get_or, take, drop, set}
use lib.Seq.{drop-cons, take-suc-set, drop-set-lt, append_snoc, take_all}
use Rattle.laws.proofs.Lists.{drop_end}
use Rattle.console_turns.specs.Turns.{limit_at, draws_from}

pub limit_positive : (place : ℕ) → 0 < limit_at place
unfolding limit_at
limit_positive place =
    cond_both (λ (n : ℕ). 0 < n) (eqb (place % DRAWS_EACH) 0) _ _ (λ _. omega arith)
    (λ _. cond_both (λ (n : ℕ). 0 < n) (eqb (place % DRAWS_EACH) 1) _ _ (λ _. omega arith) (λ _. omega arith))

pub draws_more : (l : List ℕ) (i : ℕ) {R : List ℕ} → i < length l → take i l ++ draws_from i (drop i l) ≡ R
    → take (i + 1) (set l i (get_or l i 0 % limit_at i)) ++ draws_from (i + 1) (drop (i + 1) (set l i (get_or l i 0 % limit_at i))) ≡ R
unfolding draws_from
draws_more l i h e =
    simp (add-one, take-suc-set l i (get_or l i 0 % limit_at i) h, drop-set-lt (suc i) l i (get_or l i 0 % limit_at i) (omega arith), append_snoc)
    (rw (drop-cons l i 0 h, add-one) at e)

pub draws_end : (l : List ℕ) (n : ℕ) {R : List ℕ} → length l ≡ n → take n l ++ draws_from n (drop n l) ≡ R → l ≡ R
unfolding draws_from
draws_end l n h e = sym (append-nil l) ∙ (rw (drop_end l n h, take_all n l (omega arith)) at e)
