-- The ground as page bytes: four cells to a byte, and two bytes alike. Assumes nothing.
use mathlib.Core.Path.{◌≡◌, ap, ap₂, ◌∙◌}
use mathlib.Core.Bool.{Bool}
use mathlib.Core.List.{List}
use Prim.Native.Nat.{ℕ, ◌+◌, ◌*◌, ◌%◌, ◌^◌, ◌<◌}
use native.Mathlib.Omega.{arith}
use lib.Bits.{bit_or}
use lib.ListN.{length, get_or, set}
use Rattle.laws.proofs.Lists.{get_or_default}
use Rattle.laws.proofs.Table.{table_more}
use Rattle.bits.specs.Bits.{number}
use Rattle.bits.proofs.Number.{number-above, number_ext}
use Rattle.frame.specs.Frame.{page_byte}
use Rattle.cutter_ground.specs.Cells.{cell_at, place}
use Rattle.cutter_picture.specs.Picture.{is_ink, ground_lit}
use Rattle.cutter_render.specs.CodeDraw.{cells_lit, grounded}

-- two bits, and two more, and two more, and two more
pairs : (f : ℕ → Bool) → bit_or (bit_or (bit_or (number 2 f) (number 2 (λ k. f (2 + k)) * 2 ^ 2 % 256)) (number 2 (λ k. f (4 + k)) * 2 ^ 4 % 256))
    (number 2 (λ k. f (6 + k)) * 2 ^ 6 % 256) ≡ number 8 f
pairs f =
    ap (λ (v : ℕ). bit_or (bit_or v (number 2 (λ k. f (4 + k)) * 2 ^ 4 % 256)) (number 2 (λ k. f (6 + k)) * 2 ^ 6 % 256)) (number-above 2 2 f (omega arith))
    ∙ ap (λ (v : ℕ). bit_or v (number 2 (λ k. f (6 + k)) * 2 ^ 6 % 256)) (number-above 4 2 f (omega arith))
    ∙ number-above 6 2 f (omega arith)

-- the two rows of a cell
module _ (g : List ℕ) (p cx : ℕ) (cells : length g ≡ 2048) (hp : p < 8) (hx : cx < 64) where
  pub cell-rows : (r at : ℕ) → r < 4 → at ≡ p * 4 * 64 + cx + r * 64 → number 2 (λ _. is_ink (get_or g at 0)) ≡ number 2 (λ k. cells_lit g p cx (2 * r + k))
  cell-rows r at h e =
      number_ext 2 _ _ (λ k l. ap is_ink (get_or_default g at 0 1 (omega arith) ∙ ap (λ (i : ℕ). get_or g i 1) (omega arith)))

  pub four_cells : (a b c d : ℕ) → a ≡ p * 4 * 64 + cx → b ≡ a + 64 → c ≡ a + 2 * 64 → d ≡ a + 3 * 64 →
      bit_or (bit_or (bit_or (number 2 (λ _. is_ink (get_or g a 0))) (number 2 (λ _. is_ink (get_or g b 0)) * 2 ^ 2 % 256)) (number 2 (λ _. is_ink (get_or g c 0)) * 2 ^ 4 % 256))
      (number 2 (λ _. is_ink (get_or g d 0)) * 2 ^ 6 % 256)
      ≡ number 8 (cells_lit g p cx)
  unfolding number
  four_cells a b c d ea eb ec ed =
      rw (
        cell-rows 0 a (omega arith) (omega arith),
        cell-rows 1 b (omega arith) (omega arith),
        cell-rows 2 c (omega arith) (omega arith),
        cell-rows 3 d (omega arith) (omega arith),
      )
      (pairs (cells_lit g p cx))

-- the two bytes of four cells
module _ (g : List ℕ) (p cx i : ℕ) (hx : cx < 64) (at : i ≡ p * 128 + 2 * cx) where
  left_byte : number 8 (cells_lit g p cx) ≡ page_byte (ground_lit g) i
  left_byte = number_ext 8 _ _ (λ j h. ap₂ (λ (x y : ℕ). is_ink (cell_at g (place x y))) (omega arith) (omega arith))

  right_byte : number 8 (cells_lit g p cx) ≡ page_byte (ground_lit g) (i + 1)
  right_byte = number_ext 8 _ _ (λ j h. ap₂ (λ (x y : ℕ). is_ink (cell_at g (place x y))) (omega arith) (omega arith))

  pub both_bytes : (old frame : List ℕ) (b : ℕ) → i + 1 < length old → b ≡ number 8 (cells_lit g p cx) → frame ≡ grounded g i old
      → set (set frame i b) (i + 1) b ≡ grounded g (p * 128 + 2 * (cx + 1)) old
  both_bytes old frame b h e q =
      let f = page_byte (ground_lit g) in
      let n : i + 1 + 1 ≡ p * 128 + 2 * (cx + 1) = omega arith in
      rw q
      (ap₂ (λ (u v : ℕ). set (set (grounded g i old) i u) (i + 1) v) (e ∙ left_byte) (e ∙ right_byte)
      ∙ ap (λ (l : List ℕ). set l (i + 1) (f (i + 1))) (table_more i f old 0 (omega arith))
      ∙ table_more (i + 1) f old 0 h
      ∙ ap (λ (k : ℕ). grounded g k old) n)
