-- The turns of the loop that makes keys of bytes in place. Assumes nothing.
use mathlib.Core.List.{List, ◌++◌, append-nil}
use mathlib.Core.Path.{◌≡◌, sym, ◌∙◌}
use Prim.Native.Nat.{ℕ, suc, ◌+◌, ◌<◌}
use native.Mathlib.Numerals.{add-one}
use native.Mathlib.Omega.{arith}
use lib.ListN.{length, get_or, take, drop, set}
use lib.Seq.{drop-cons, take-suc-set, drop-set-lt, append_snoc, take_all}
use Rattle.laws.proofs.Lists.{drop_end}
use Rattle.console_keys.specs.Keys.{heard_key, waits_after, keys_of, waits_of}

module _ (l : List ℕ) (i w : ℕ) (h : i < length l) where
  pub keys_more : {R : List ℕ} → take i l ++ keys_of w (drop i l) ≡ R
      → take (i + 1) (set l i (heard_key w (get_or l i 0))) ++ keys_of (waits_after w (get_or l i 0)) (drop (i + 1) (set l i (heard_key w (get_or l i 0)))) ≡ R
  unfolding keys_of
  keys_more e =
      simp (add-one, take-suc-set l i (heard_key w (get_or l i 0)) h, drop-set-lt (suc i) l i (heard_key w (get_or l i 0)) (omega arith), append_snoc)
      (rw (drop-cons l i 0 h) at e)

  pub waits_more : (v : ℕ) {R : ℕ} → waits_of w (drop i l) ≡ R → waits_of (waits_after w (get_or l i 0)) (drop (i + 1) (set l i v)) ≡ R
  unfolding waits_of
  waits_more v e = simp (add-one, drop-set-lt (suc i) l i v (omega arith)) (rw (drop-cons l i 0 h) at e)

module _ (l : List ℕ) (n w : ℕ) (h : length l ≡ n) where
  pub keys_end : {R : List ℕ} → take n l ++ keys_of w (drop n l) ≡ R → l ≡ R
  unfolding keys_of
  keys_end e = sym (append-nil l) ∙ (rw (drop_end l n h, take_all n l (omega arith)) at e)

  pub waits_end : {R : ℕ} → waits_of w (drop n l) ≡ R → w ≡ R
  unfolding waits_of
  waits_end e = rw (drop_end l n h) at e
