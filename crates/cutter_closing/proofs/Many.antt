-- A grid whose ring has no black cell has at most 930 regions: of two cells side by side only one begins a region. Assumes nothing.
use mathlib.Core.Path.{◌≡◌, refl, sym, ap, subst, ◌∙◌}
use mathlib.Core.List.{List}
use mathlib.Core.Logic.{⊎_elim}
use Prim.Native.Nat.{ℕ, zero, suc, ◌+◌, ◌*◌, ◌%◌, ◌≤◌, ◌<◌}
use native.Mathlib.Numerals.{add-one}
use native.Mathlib.Omega.{arith}
use lib.ListN.{length, get_or, drop}
use Rattle.laws.proofs.Choice.{same?}
use Rattle.laws.proofs.Lists.{drop-one, drop_end}
use Rattle.cutter_ground.specs.Cells.{CN}
use Rattle.cutter_joined.specs.Joined.{Black, Right, right, here, step}
use Rattle.cutter_joined.proofs.Joined.{right-same, right-black}
use Rattle.cutter_closing.specs.Counted.{roots_from}
use Rattle.cutter_closing.proofs.Roots.{roots_none, roots_root, roots_pass}

-- how many regions begin at the cell n or later
unfoldable left : List ℕ → ℕ → ℕ
left L n = length (roots_from n (drop n L))

rest : (y r : ℕ) → r < 64 → (y * 64 + r) % 64 ≡ r
rest y r h = omega arith

module _ {g L : List ℕ} (R : Right g L) (inner : (c : ℕ) → Black g c → (0 < c % 64) × (c % 64 < 63) × (64 ≤ c) × (c < 1984)) where
  left_root : (n : ℕ) → n < 2048 → get_or L n CN ≡ n → left L n ≡ left L (n + 1) + 1
  unfolding left
  left_root n h e = ap (λ (l : List ℕ). length (roots_from n l)) (drop-one L n CN (omega (arith, R.len))) ∙ ap length (roots_root n (get_or L n CN) (drop (n + 1) L) e)
      ∙ ap (λ (m : ℕ). suc (length (roots_from m (drop (n + 1) L)))) (sym (add-one n)) ∙ omega arith

  left-pass : (n : ℕ) → n < 2048 → (get_or L n CN ≡ n → ⊥) → left L n ≡ left L (n + 1)
  unfolding left
  left-pass n h e = ap (λ (l : List ℕ). length (roots_from n l)) (drop-one L n CN (omega (arith, R.len))) ∙ ap length (roots_pass n (get_or L n CN) (drop (n + 1) L) e)
      ∙ ap (λ (m : ℕ). length (roots_from m (drop (n + 1) L))) (sym (add-one n))

  left_end : left L 2048 ≡ 0
  unfolding left
  left_end = ap (λ (l : List ℕ). length (roots_from 2048 l)) (drop_end L 2048 R.len) ∙ ap length (roots_none 2048)

  none : (n : ℕ) → n < 2048 → (Black g n → ⊥) → left L n ≡ left L (n + 1)
  none n h b = left-pass n h (λ e. b (right-black R n (omega arith)))

  one : (n : ℕ) → n < 2048 → left L n ≤ left L (n + 1) + 1
  one n h = ⊎_elim (λ e. let z = left_root n h e in omega arith) (λ e. let z = left-pass n h e in omega arith) (same? (get_or L n CN) n)

  pair : (n : ℕ) → n % 64 < 63 → n + 1 < 2048 → left L n ≤ left L (n + 1 + 1) + 1
  pair n h k =
      ⊎_elim
      (λ e. let z = left_root n (omega arith) e in
      let y = left-pass (n + 1) k (λ f. let s = right-same R n (n + 1)
      (step (here (right-black R n (omega arith))) (right h refl) (right-black R (n + 1) (omega arith))) in omega arith) in
      omega arith)
      (λ e. let z = left-pass n (omega arith) e in let y = one (n + 1) k in omega arith) (same? (get_or L n CN) n)

  row : (y k : ℕ) → y < 32 → k ≤ 31 → left L (y * 64) ≤ left L (y * 64 + 1 + 2 * k) + k
  row y zero h l =
      let z = none (y * 64) (omega arith) (λ b. let i = (inner (y * 64) b).0 in omega arith) in
      let e : y * 64 + 1 ≡ y * 64 + 1 + 2 * 0 = omega arith in
      subst (λ (n : ℕ). left L (y * 64) ≤ left L n + 0) e (omega arith)
  row y (suc k) h l =
      let i = row y k h (omega arith) in
      let m = rest y (1 + 2 * k) (omega arith) in
      let q : y * 64 + (1 + 2 * k) ≡ y * 64 + 1 + 2 * k = omega arith in
      let p = pair (y * 64 + 1 + 2 * k) (subst (λ (n : ℕ). n % 64 < 63) q (omega arith)) (omega arith) in
      let e : y * 64 + 1 + 2 * k + 1 + 1 ≡ y * 64 + 1 + 2 * suc k = omega arith in
      subst (λ (n : ℕ). left L (y * 64) ≤ left L n + suc k) e (omega arith)

  row_end : (y : ℕ) → y < 32 → left L (y * 64) ≤ left L (suc y * 64) + 31
  row_end y h =
      let i = row y 31 h (omega arith) in
      let z = none (y * 64 + 1 + 2 * 31) (omega arith) (λ b. let j = (inner (y * 64 + 1 + 2 * 31) b).1 in omega arith) in
      let e : y * 64 + 1 + 2 * 31 + 1 ≡ suc y * 64 = omega arith in
      subst (λ (n : ℕ). left L (y * 64) ≤ left L n + 31) e (omega arith)

  flat : (a k : ℕ) → a + k ≤ 2048 → ((c : ℕ) → a ≤ c → c < a + k → Black g c → ⊥) → left L a ≡ left L (a + k)
  flat a zero h f = let e : a ≡ a + 0 = omega arith in ap (left L) e
  flat a (suc k) h f =
      let i = flat a k (omega arith) (λ c l m. f c l (omega arith)) in
      let z = none (a + k) (omega arith) (f (a + k) (omega arith) (omega arith)) in
      let e : a + k + 1 ≡ a + suc k = omega arith in
      i ∙ z ∙ ap (left L) e

  rows : (y : ℕ) → y ≤ 30 → left L 64 ≤ left L (suc y * 64) + 31 * y
  rows zero h = omega arith
  rows (suc y) h = let i = rows y (omega arith) in let r = row_end (suc y) (omega arith) in omega arith

  -- 62 by 30 cells hold at most 930 regions
  pub most_regions : length (roots_from 0 L) ≤ 930
  unfolding left
  most_regions =
      let i = rows 30 (omega arith) in
      let z : left L 0 ≡ left L 64 = flat 0 64 (omega arith) (λ c l m b. let j = (inner c b).2 in omega arith) in
      let y : left L 1984 ≡ left L 2048 = flat 1984 64 (omega arith) (λ c l m b. let j = (inner c b).3 in omega arith) in
      omega (arith, left_end)
