-- The cells as the definitions read them, and what the claimed ring says. Assumes nothing.
use mathlib.Core.Bool.{true, ◌&&◌}
use mathlib.Core.List.{List}
use mathlib.Core.Logic.{⊎_elim}
use mathlib.Core.Path.{◌≡◌, ap, ◌∙◌}
use Prim.Native.Nat.{ℕ, ◌+◌, ◌-◌, ◌<◌}
use native.Mathlib.Omega.{arith}
use lib.Dec.{eqb, ltb}
use lib.ListN.{length, get_or}
use borrow.Author.Tests.{eqb-true, eq-eqb, ltb-true, lt-ltb}
use Rattle.laws.proofs.Below.{at_below, all-below}
use Rattle.laws.proofs.Choice.{and_left, and_right, and_both, below?}
use Rattle.laws.proofs.Lists.{get_or_default}
use Rattle.cutter_ground.specs.Cells.{CW, CH, CN, CB_FILLED, cell_at, place, on_grid, claimed_at}
use Rattle.cutter_state.specs.State.{holds_at}
use Rattle.cutter_state.specs.WellFormed.{rows_filled, columns_filled}
use Rattle.cutter_state.specs.CodeState.{Inside}

-- a read inside the grid, whatever stands for 'off the grid'
pub filled_read : (g : List ℕ) (i x y : ℕ) → length g ≡ CN → x < CW → y < CH → i ≡ place x y → eqb (get_or g i 0) CB_FILLED ≡ claimed_at g (place x y)
filled_read g i x y l h k e =
    ap (λ (n : ℕ). eqb (get_or g n 0) CB_FILLED) e
    ∙ ap (λ (n : ℕ). eqb n CB_FILLED) (get_or_default g (place x y) 0 CB_FILLED (omega arith))

-- ---- a cell that holds a code

module _ (g : List ℕ) (k x y : ℕ) where
  pub holds-inside : holds_at g k x y ≡ true → (x < CW) × (y < CH)
  unfolding holds_at
  holds-inside e =
      let on = and_left (on_grid x y) (eqb (cell_at g (place x y)) k) e in
      (ltb-true x CW (and_left (ltb x CW) (ltb y CH) on), ltb-true y CH (and_right (ltb x CW) (ltb y CH) on))

  pub holds_code : holds_at g k x y ≡ true → cell_at g (place x y) ≡ k
  unfolding holds_at
  holds_code e = eqb-true (cell_at g (place x y)) k (and_right (on_grid x y) (eqb (cell_at g (place x y)) k) e)

  pub code_holds : x < CW → y < CH → cell_at g (place x y) ≡ k → holds_at g k x y ≡ true
  unfolding holds_at
  code_holds h l e = simp (lt-ltb x CW h, lt-ltb y CH l, eq-eqb (cell_at g (place x y)) k e)

-- ---- the ring

module _ (g : List ℕ) where
  pub row_filled : rows_filled g ≡ true → (x : ℕ) → x < CW → (cell_at g (place x 0) ≡ CB_FILLED) × (cell_at g (place x (CH - 1)) ≡ CB_FILLED)
  unfolding rows_filled
  row_filled r x h =
      let t = at_below CW (λ x. claimed_at g (place x 0) && claimed_at g (place x (CH - 1))) r x h in (
        eqb-true (cell_at g (place x 0)) CB_FILLED (and_left (claimed_at g (place x 0)) (claimed_at g (place x (CH - 1))) t),
        eqb-true (cell_at g (place x (CH - 1))) CB_FILLED (and_right (claimed_at g (place x 0)) (claimed_at g (place x (CH - 1))) t),
      )

  pub column_filled : columns_filled g ≡ true → (y : ℕ) → y < CH → (cell_at g (place 0 y) ≡ CB_FILLED) × (cell_at g (place (CW - 1) y) ≡ CB_FILLED)
  unfolding columns_filled
  column_filled r y h =
      let t = at_below CH (λ y. claimed_at g (place 0 y) && claimed_at g (place (CW - 1) y)) r y h in (
        eqb-true (cell_at g (place 0 y)) CB_FILLED (and_left (claimed_at g (place 0 y)) (claimed_at g (place (CW - 1) y)) t),
        eqb-true (cell_at g (place (CW - 1) y)) CB_FILLED (and_right (claimed_at g (place 0 y)) (claimed_at g (place (CW - 1) y)) t),
      )

-- a cell of the grid that isn't claimed lies inside the ring
pub inside_ring : (g : List ℕ) (x y : ℕ) → rows_filled g ≡ true → columns_filled g ≡ true → x < CW → y < CH → (cell_at g (place x y) ≡ CB_FILLED → ⊥) → Inside x y
inside_ring g x y r s h k n =
    let row = row_filled g r x h in
    let column = column_filled g s y k in
    record {
      left = ⊎_elim (λ l. l) (λ l. absurd (n (ap (cell_at g) (omega arith) ∙ column.0))) (below? 0 x);
      right = ⊎_elim (λ l. l) (λ l. absurd (n (ap (cell_at g) (omega arith) ∙ column.1))) (below? (x + 1) CW);
      top = ⊎_elim (λ l. l) (λ l. absurd (n (ap (cell_at g) (omega arith) ∙ row.0))) (below? 0 y);
      bottom = ⊎_elim (λ l. l) (λ l. absurd (n (ap (cell_at g) (omega arith) ∙ row.1))) (below? (y + 1) CH);
    }

-- the ring stays claimed where no claimed cell is lost
module _ (g h : List ℕ) (kept : (i : ℕ) → cell_at g i ≡ CB_FILLED → cell_at h i ≡ CB_FILLED) where
  still : (x y : ℕ) → cell_at g (place x y) ≡ CB_FILLED → claimed_at h (place x y) ≡ true
  still x y e = eq-eqb (cell_at h (place x y)) CB_FILLED (kept (place x y) e)

  pub rows-kept : rows_filled g ≡ true → rows_filled h ≡ true
  unfolding rows_filled
  rows-kept r = all-below CW (λ x. claimed_at h (place x 0) && claimed_at h (place x (CH - 1))) (λ x l.
      let t = row_filled g r x l in and_both (claimed_at h (place x 0)) (claimed_at h (place x (CH - 1))) (still x 0 t.0) (still x (CH - 1) t.1))

  pub columns-kept : columns_filled g ≡ true → columns_filled h ≡ true
  unfolding columns_filled
  columns-kept r = all-below CH (λ y. claimed_at h (place 0 y) && claimed_at h (place (CW - 1) y)) (λ y l.
      let t = column_filled g r y l in and_both (claimed_at h (place 0 y)) (claimed_at h (place (CW - 1) y)) (still 0 y t.0) (still (CW - 1) y t.1))
