-- A run of bytes is taken byte by byte, or in parts. Assumes nothing.
use mathlib.Core.List.{List, [], ◌∷◌, ◌++◌, append_assoc}
use mathlib.Core.Path.{◌≡◌, refl, sym, ap, ◌∙◌}
use Prim.Native.Nat.{ℕ, ◌+◌, ◌<◌, ◌≤◌}
use lib.ListN.{length, drop, get_or, drop_of_length-le}
use Rattle.laws.proofs.Lists.{drop-one}
use Rattle.text.specs.CodePuts.{Puts}
use Rattle.text.proofs.Puts.{puts_none, puts-both}
use Rattle.lines.specs.Runs.{after, lines_of}

module _ {S : Type 0} (step : S → ℕ → S) where
  pub after_both : (s : S) (bs cs : List ℕ) → after step s (bs ++ cs) ≡ after step (after step s bs) cs
  unfolding after
  after_both s [] cs = refl
  after_both s (b ∷ bs) cs = after_both (step s b) bs cs

  module _ (bytes : List ℕ) (i : ℕ) (s : S) where
    pub after_more : i < length bytes → {R : S} → after step s (drop i bytes) ≡ R → after step (step s (get_or bytes i 0)) (drop (i + 1) bytes) ≡ R
    unfolding after
    after_more h e = rw (drop-one bytes i 0 h) at e

    pub after_end : length bytes ≤ i → {R : S} → after step s (drop i bytes) ≡ R → s ≡ R
    unfolding after
    after_end h e = rw (drop_of_length-le bytes h) at e

  module _ (line : S → ℕ → List ℕ) where
    pub lines_both : (s : S) (bs cs : List ℕ) → lines_of step line s (bs ++ cs) ≡ lines_of step line s bs ++ lines_of step line (after step s bs) cs
    unfolding after lines_of
    lines_both s [] cs = refl
    lines_both s (b ∷ bs) cs = ap (λ (t : List ℕ). line s b ++ t) (lines_both (step s b) bs cs)
        ∙ sym (append_assoc (line s b) (lines_of step line (step s b) bs) (lines_of step line (after step (step s b) bs) cs))

    module _ (bytes : List ℕ) (i : ℕ) (s : S) {at : ℕ} {l : List ℕ} where
      pub lines_more : i < length bytes → {mid end : ℕ} {m k : List ℕ} → Puts (line s (get_or bytes i 0)) at l mid m
          → Puts (lines_of step line (step s (get_or bytes i 0)) (drop (i + 1) bytes)) mid m end k → Puts (lines_of step line s (drop i bytes)) at l end k
      unfolding lines_of
      lines_more h p q = rw (drop-one bytes i 0 h) (puts-both p q)

    pub lines_end : (bytes : List ℕ) (i : ℕ) (s : S) (at : ℕ) (l : List ℕ) → length bytes ≤ i → Puts (lines_of step line s (drop i bytes)) at l at l
    unfolding lines_of
    lines_end bytes i s at l h = rw (drop_of_length-le bytes h) (puts_none at l)
