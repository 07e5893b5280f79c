-- A loop over two runs of bytes: the first difference of what is left is R, the answer that is wanted. Assumes nothing.
use Rattle.std.specs.Prelude.{Option, None, Some}
use mathlib.Core.Bool.{true, false}
use mathlib.Core.List.{List}
use mathlib.Core.Path.{◌≡◌}
use Prim.Native.Nat.{ℕ, ◌+◌, ◌<◌, ◌≤◌}
use lib.Dec.{eqb}
use lib.ListN.{length, get_or, drop, drop_of_length-le}
use Rattle.laws.proofs.Lists.{drop-one}
use Rattle.trace_verdict.specs.Compare.{differ_from}

module _ (a b : List ℕ) (i : ℕ) {R : Option ℕ} (e : differ_from i (drop i a) (drop i b) ≡ R) where
  pub cut_right : i < length a → length b ≤ i → Some i ≡ R
  cut_right h k = rw (drop-one a i 0 h, drop_of_length-le b {i = i} k) at e

  pub cut_left : length a ≤ i → i < length b → Some i ≡ R
  cut_left h k = rw (drop_of_length-le a {i = i} h, drop-one b i 0 k) at e

  pub both_end : length a ≤ i → length b ≤ i → None ≡ R
  both_end h k = rw (drop_of_length-le a {i = i} h, drop_of_length-le b {i = i} k) at e

  pub unlike : i < length a → i < length b → eqb (get_or a i 0) (get_or b i 0) ≡ false → Some i ≡ R
  unlike h k t = rw (drop-one a i 0 h, drop-one b i 0 k, t) at e

  pub alike : i < length a → i < length b → eqb (get_or a i 0) (get_or b i 0) ≡ true → differ_from (i + 1) (drop (i + 1) a) (drop (i + 1) b) ≡ R
  alike h k t = rw (drop-one a i 0 h, drop-one b i 0 k, t) at e
