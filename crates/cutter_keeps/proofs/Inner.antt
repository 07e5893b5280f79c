-- The ring of a well-formed state is claimed: at most the cells inside it are black, and at least the ring is claimed. Assumes nothing.
use mathlib.Core.Path.{◌≡◌, sym, ◌∙◌, ap}
use mathlib.Core.Logic.{⊎_elim}
use Prim.Native.Nat.{ℕ, ◌+◌, ◌-◌, ◌/◌, ◌%◌, ◌≤◌, ◌<◌}
use native.Mathlib.Omega.{arith}
use lib.Dec.{eqb}
use lib.ListN.{length}
use borrow.Author.Tests.{eqb-true, eq-eqb, eqb-false}
use Rattle.laws.specs.Lists.{tally}
use Rattle.laws.proofs.Counts.{count_mono}
use Rattle.cutter_ground.specs.Cells.{CW, CN, CB_BLACK, CB_FILLED, cell_at, INNER, place, black_at, claimed_at, RING}
use Rattle.cutter_state.specs.declared.Cutter.{Cutter}
use Rattle.cutter_state.specs.State.{black_in, claimed_in}
use Rattle.cutter_state.specs.WellFormed.{WellFormed}
use Rattle.cutter_state.proofs.Ring.{inside_ring}
use Rattle.cutter_rules.specs.Level.{fresh_grid}
use Rattle.cutter_keeps.proofs.Level.{inner_black, ground}
use mathlib.Core.Bool.{true}
use Rattle.laws.proofs.Choice.{bool_cases}

-- a cell that is not claimed is black on a fresh grid
unclaimed : (c : Cutter) → WellFormed c → (i : ℕ) → i < CN → (cell_at c.grid i ≡ CB_FILLED → ⊥) → cell_at fresh_grid i ≡ CB_BLACK
unclaimed c w i h n =
    let q : place (i % CW) (i / CW) ≡ i = omega arith in
    let t = inside_ring c.grid (i % CW) (i / CW) w.rows w.columns (omega arith) (omega arith) (λ f. n (sym (ap (cell_at c.grid) q) ∙ f)) in
    let p : i ≡ place (1 + (i % CW - 1)) (1 + (i / CW - 1)) = omega (arith, t.left, t.top) in
    ap (cell_at fresh_grid) p ∙ inner_black (i % CW - 1) (i / CW - 1) (omega (arith, t.left, t.right)) (omega (arith, t.top, t.bottom))

pub black-most : (c : Cutter) → WellFormed c → black_in c ≤ INNER
unfolding tally
black-most c w =
    let l : length c.grid ≡ length fresh_grid = w.cells ∙ sym ground.cells in
    let black : (i : ℕ) → i < length c.grid → black_at c.grid i ≡ true → black_at fresh_grid i ≡ true =
    λ i h e. let b = eqb-true (cell_at c.grid i) CB_BLACK e in eq-eqb (cell_at fresh_grid i) CB_BLACK (unclaimed c w i (omega (arith, w.cells)) (λ f. omega (arith, f, b))) in
    omega (arith, count_mono (λ x. eqb x CB_BLACK) (λ x. eqb x CB_BLACK) c.grid fresh_grid CB_FILLED CB_FILLED l black, ground.black)

-- and the ring at least is claimed
pub claimed-least : (c : Cutter) → WellFormed c → RING ≤ claimed_in c
unfolding tally
claimed-least c w =
    let l : length fresh_grid ≡ length c.grid = ground.cells ∙ sym w.cells in
    let filled : (i : ℕ) → i < length fresh_grid → claimed_at fresh_grid i ≡ true → claimed_at c.grid i ≡ true =
    λ i h e. ⊎_elim (λ t. t)
    (λ f. let b = unclaimed c w i (omega (arith, ground.cells)) (eqb-false (cell_at c.grid i) CB_FILLED f) in
    absurd (omega (arith, b, eqb-true (cell_at fresh_grid i) CB_FILLED e)))
    (bool_cases (claimed_at c.grid i)) in
    omega (arith, count_mono (λ x. eqb x CB_FILLED) (λ x. eqb x CB_FILLED) fresh_grid c.grid CB_FILLED CB_FILLED l filled, ground.claimed)
