-- One pixel, and one column of a cell: the byte that holds it. Assumes nothing.
use mathlib.Core.Path.{◌≡◌, refl}
use mathlib.Core.Bool.{true, false, ◌&&◌, and-false}
use mathlib.Core.Logic.{◌⊎◌, inl, inr}
use Prim.Native.Nat.{ℕ, ◌+◌, ◌*◌, ◌/◌, ◌%◌, ◌<◌}
use native.Mathlib.Omega.{arith}
use borrow.Author.Tests.{eq-eqb, ne_eqb, ltb-true}
use lib.Dec.{eqb, ltb}
use lib.ListN.{get_or}
use mathlib.Core.List.{List}
use Rattle.laws.specs.Lists.{all}
use Rattle.laws.proofs.Choice.{same?, and_left, and_right}
use Rattle.laws.proofs.Lists.{all_at}
use Rattle.bits.specs.Bits.{number}
use Rattle.frame.specs.Frame.{page_byte}
use Rattle.cutter_picture.specs.Picture.{dot_lit}
use Rattle.cutter_render.specs.CodeDraw.{column_lit, on_panel}
use Rattle.cutter_ground.specs.Cells.{CW, CH, CB_BLACK, cell_at, place}
use Rattle.cutter_ground.specs.declared.Mover.{Mover}
use Rattle.cutter_state.specs.State.{holds_at}
use Rattle.cutter_state.specs.WellFormed.{mover_ok, is_unit}

module _ (x y : ℕ) (hx : x < 128) (hy : y < 64) where
  pub dot_here : number 8 (λ j. eqb x x && eqb y (y / 8 * 8 + j)) ≡ page_byte (dot_lit x y) (y / 8 * 128 + x)
  dot_here =
      let p : (y / 8 * 128 + x) % 128 ≡ x = omega arith in
      let q : (y / 8 * 128 + x) / 128 ≡ y / 8 = omega arith in
      rw (p, q)

  pub dot_off : (a b : ℕ) → a < 128 → b < 64 → (b / 8 * 128 + a ≡ y / 8 * 128 + x → ⊥) → dot_lit x y a b ≡ false
  dot_off a b ha hb n = go (same? x a) (same? y b)
    where
      go : (x ≡ a) ⊎ (x ≡ a → ⊥) → (y ≡ b) ⊎ (y ≡ b → ⊥) → dot_lit x y a b ≡ false
      go (inl p) (inl q) = absurd (n (omega arith))
      go (inl p) (inr q) = rw (ne_eqb y b q) (and-false (eqb x a))
      go (inr p) q = rw (ne_eqb x a p)

module _ (x cy : ℕ) (hx : x < 128) (hy : cy < 32) where
  pub column_here : number 8 (λ j. eqb (x / 2) (x / 2) && eqb cy ((cy / 4 * 8 + j) / 2)) ≡ page_byte (column_lit x cy) (cy / 4 * 128 + x)
  column_here =
      let p : (cy / 4 * 128 + x) % 128 ≡ x = omega arith in
      let q : (cy / 4 * 128 + x) / 128 ≡ cy / 4 = omega arith in
      rw (p, q, eq-eqb x x refl, eq-eqb (x / 2) (x / 2) refl)

  pub column_off : (a b : ℕ) → a < 128 → b < 64 → (b / 8 * 128 + a ≡ cy / 4 * 128 + x → ⊥) → column_lit x cy a b ≡ false
  column_off a b ha hb n = go (same? x a) (same? cy (b / 2))
    where
      go : (x ≡ a) ⊎ (x ≡ a → ⊥) → (cy ≡ b / 2) ⊎ (cy ≡ b / 2 → ⊥) → column_lit x cy a b ≡ false
      go (inl p) (inl q) = absurd (n (omega arith))
      go (inl p) (inr q) = rw (ne_eqb cy (b / 2) q) (and-false (eqb x a))
      go (inr p) q = rw (ne_eqb x a p)

-- each creature is on the grid
pub on_panel_lem : (es : List Mover) (i : ℕ) (d : Mover) → on_panel d ≡ true → all on_panel es ≡ true → ((get_or es i d).x < CW) × ((get_or es i d).y < CH)
on_panel_lem es i d z h =
    let e = get_or es i d in
    let t = all_at on_panel es i d h z in
    (ltb-true e.x CW (and_left (ltb e.x CW) (ltb e.y CH) t), ltb-true e.y CH (and_right (ltb e.x CW) (ltb e.y CH) t))

-- where a code stands is on the grid
pub holds_panel : (g : List ℕ) (e : Mover) → mover_ok g e ≡ true → on_panel e ≡ true
unfolding mover_ok holds_at
holds_panel g e h =
    let on = on_panel e && eqb (cell_at g (place e.x e.y)) CB_BLACK in
    and_left (on_panel e) (eqb (cell_at g (place e.x e.y)) CB_BLACK)
    (and_left on (is_unit e.vx) (and_left (on && is_unit e.vx) (is_unit e.vy) h))
