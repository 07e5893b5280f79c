-- One pixel, and one cell of 2 by 2 pixels, as the byte of a column of a page. Assumes nothing.
use mathlib.Core.Path.{◌≡◌, refl, sym, ap, ◌∙◌}
use mathlib.Core.Bool.{Bool, true, false, ◌&&◌, and_assoc}
use Prim.Native.Nat.{ℕ, ◌+◌, ◌*◌, ◌/◌, ◌%◌, ◌^◌, ◌<◌}
use native.Mathlib.Decide.{ℕ_discrete}
use native.Mathlib.Omega.{arith}
use borrow.Author.Tests.{eq-eqb, ne_eqb}
use lib.Dec.{eqb}
use Rattle.laws.proofs.Below.{same-below}
use Rattle.bits.specs.Bits.{number}
use Rattle.bits.proofs.Number.{number_ext, number-none}

-- `1 << k` and `3 << 2 * k`
pub one_bit : (k : ℕ) → k < 8 → 1 * 2 ^ k % 256 ≡ number 8 (λ j. eqb k j)
unfolding number
one_bit = same-below 8 (λ k. 1 * 2 ^ k % 256) (λ k. number 8 (λ j. eqb k j)) refl

pub two_bits : (k : ℕ) → k < 4 → 3 * 2 ^ (2 * k) % 256 ≡ number 8 (λ j. eqb k (j / 2))
unfolding number
two_bits = same-below 4 (λ k. 3 * 2 ^ (2 * k) % 256) (λ k. number 8 (λ j. eqb k (j / 2))) refl

-- one test is two tests
pub eqb_and : (a b c d e f : ℕ) → (a ≡ b → (c ≡ d) × (e ≡ f)) → (c ≡ d → e ≡ f → a ≡ b) → eqb a b ≡ (eqb c d && eqb e f)
eqb_and a b c d e f to from = go (ℕ_discrete c d) (ℕ_discrete e f)
  where
    go : Dec (c ≡ d) → Dec (e ≡ f) → eqb a b ≡ (eqb c d && eqb e f)
    go (yes p) (yes q) = rw (eq-eqb a b (from p q), eq-eqb c d p, eq-eqb e f q)
    go (yes p) (no q) = rw (ne_eqb a b (λ z. q (to z).1), eq-eqb c d p, ne_eqb e f q)
    go (no p) q = rw (ne_eqb a b (λ z. p (to z).0), ne_eqb c d p)

-- a byte whose bits all hang on one test
gated : (t : Bool) (g : ℕ → Bool) (v : ℕ) → t ≡ true → v ≡ number 8 g → v ≡ number 8 (λ j. t && g j)
gated t g v e h = rw e h

shut : (t : Bool) (g : ℕ → Bool) → t ≡ false → 0 ≡ number 8 (λ j. t && g j)
shut t g e = rw e (sym (number-none 8))

module _ (x₀ y₀ p x : ℕ) where
  row : (j : ℕ) → j < 8 → (eqb x₀ x && eqb (y₀ / 8) p && eqb (y₀ % 8) j) ≡ (eqb x₀ x && eqb y₀ (p * 8 + j))
  row j h =
      and_assoc (eqb x₀ x) (eqb (y₀ / 8) p) (eqb (y₀ % 8) j)
      ∙ ap (λ (b : Bool). eqb x₀ x && b) (sym (eqb_and y₀ (p * 8 + j) (y₀ / 8) p (y₀ % 8) j (λ e. (omega arith, omega arith)) (λ e f. omega arith)))

  pub dot_in : (eqb x₀ x && eqb (y₀ / 8) p) ≡ true → 1 * 2 ^ (y₀ % 8) % 256 ≡ number 8 (λ j. eqb x₀ x && eqb y₀ (p * 8 + j))
  dot_in e = gated _ (λ j. eqb (y₀ % 8) j) _ e (one_bit (y₀ % 8) (omega arith)) ∙ number_ext 8 _ _ row

  pub dot_out : (eqb x₀ x && eqb (y₀ / 8) p) ≡ false → 0 ≡ number 8 (λ j. eqb x₀ x && eqb y₀ (p * 8 + j))
  dot_out e = shut _ (λ j. eqb (y₀ % 8) j) e ∙ number_ext 8 _ _ row

  rows : (j : ℕ) → j < 8 → (eqb x₀ (x / 2) && eqb (y₀ / 4) p && eqb (y₀ % 4) (j / 2)) ≡ (eqb x₀ (x / 2) && eqb y₀ ((p * 8 + j) / 2))
  rows j h =
      and_assoc (eqb x₀ (x / 2)) (eqb (y₀ / 4) p) (eqb (y₀ % 4) (j / 2))
      ∙ ap (λ (b : Bool). eqb x₀ (x / 2) && b) (sym (eqb_and y₀ ((p * 8 + j) / 2) (y₀ / 4) p (y₀ % 4) (j / 2) (λ e. (omega arith, omega arith)) (λ e f. omega arith)))

  pub cell_in : (eqb x₀ (x / 2) && eqb (y₀ / 4) p) ≡ true → 3 * 2 ^ (2 * (y₀ % 4)) % 256 ≡ number 8 (λ j. eqb x₀ (x / 2) && eqb y₀ ((p * 8 + j) / 2))
  cell_in e = gated _ (λ j. eqb (y₀ % 4) (j / 2)) _ e (two_bits (y₀ % 4) (omega arith)) ∙ number_ext 8 _ _ rows

  pub cell_out : (eqb x₀ (x / 2) && eqb (y₀ / 4) p) ≡ false → 0 ≡ number 8 (λ j. eqb x₀ (x / 2) && eqb y₀ ((p * 8 + j) / 2))
  cell_out e = shut _ (λ j. eqb (y₀ % 4) (j / 2)) e ∙ number_ext 8 _ _ rows
