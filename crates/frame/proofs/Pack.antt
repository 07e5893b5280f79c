-- What a packed frame holds: reading a pixel back gives what was packed, so two pictures that differ at a pixel differ
-- as frames. Assumes nothing.
use mathlib.Core.Path.{◌≡◌, ◌∙◌}
use mathlib.Core.Bool.{Bool}
use Prim.Native.Nat.{ℕ, ◌+◌, ◌*◌, ◌/◌, ◌%◌, ◌<◌}
use native.Mathlib.Omega.{arith}
use Rattle.laws.proofs.Table.{get_or-table_lem, table_ext}
use Rattle.bits.proofs.Number.{bit-number, number_ext}
use Rattle.frame.specs.Frame.{pack, pixel, page_byte}

pub pixel-pack : (lit : ℕ → ℕ → Bool) (x y : ℕ) → x < 128 → y < 64 → pixel (pack lit) x y ≡ lit x y
unfolding pack
pixel-pack lit x y hx hy =
    let p : (y / 8 * 128 + x) % 128 ≡ x = omega arith in
    let q : (y / 8 * 128 + x) / 128 ≡ y / 8 = omega arith in
    let r : y / 8 * 8 + y % 8 ≡ y = omega arith in
    rw (get_or-table_lem 1024 (page_byte lit) (y / 8 * 128 + x) 0 (omega arith)) (bit-number 8 _ (y % 8) (omega arith) ∙ rw (p, q, r))

-- only the pixels of the panel count
pub pack_ext : (f g : ℕ → ℕ → Bool) → ((x y : ℕ) → x < 128 → y < 64 → f x y ≡ g x y) → pack f ≡ pack g
unfolding pack
pack_ext f g h =
    table_ext 1024 (page_byte f) (page_byte g) (λ k l. number_ext 8 _ _ (λ j m. h _ _ (omega arith) (omega arith)))
