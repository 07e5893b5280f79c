-- A fresh level is well formed, and its numbers are those of the ring. Assumes nothing.
use mathlib.Core.Bool.{true, false}
use mathlib.Core.List.{List, ◌++◌}
use mathlib.Core.Path.{◌≡◌, refl, ◌∙◌, ap}
use Prim.Native.Nat.{ℕ, zero, suc, ◌+◌, ◌-◌, ◌*◌, ◌/◌, ◌≤◌, ◌<◌}
use native.Mathlib.Omega.{arith}
use lib.ListN.{length, get_or, length-append, get_or-append}
use lib.Seq.{get_or-append-add}
use Rattle.laws.specs.Lists.{all, any, table, tally}
use Rattle.laws.proofs.Below.{same-below}
use Rattle.laws.proofs.Table.{length-table, all-table}
use Rattle.cutter_ground.specs.Cells.{CW, CH, CN, CB_BLACK, CB_FILLED, CB_TRAIL, cell_at, INNER, RING, place}
use Rattle.cutter_state.specs.declared.Cutter.{Cutter}
use Rattle.cutter_state.specs.State.{holds_at}
use Rattle.cutter_state.specs.WellFormed.{MAX_LIVES, MAX_LEVEL, is_code, is_trail, rows_filled, columns_filled, is_unit, mover_ok}
use Rattle.cutter_state.proofs.Ring.{code_holds}
use Rattle.cutter_rules.specs.Level.{edge, between, rows, fresh_grid, creatures_of, draw_at, in_range, draws_ok, velocity, drawn_mover, at_start, fresh_level}
use Rattle.cutter_rules.proofs.Draws.{creatures-few, place-fits, draws_fit}
use Rattle.cutter_keeps.specs.Kept.{Fresh}
use Rattle.cutter_keeps.proofs.Creatures.{slots_length, slots-each, slots-rest}

-- ---- inside the ring is black

module _ (r : List ℕ) (l : length r ≡ CW) where
  length-rows : (k : ℕ) → length (rows k r) ≡ k * CW
  length-rows zero = refl
  length-rows (suc k) = length-append r (rows k r) ∙ omega (arith, length-rows k)

  rows_at : (k y x d : ℕ) → y < k → x < CW → get_or (rows k r) (place x y) d ≡ get_or r x d
  rows_at zero y x d h i = absurd (omega arith)
  rows_at (suc k) zero x d h i =
      let q : place x zero ≡ x = omega arith in
      ap (λ (n : ℕ). get_or (r ++ rows k r) n d) q ∙ get_or-append r (rows k r) d x (omega arith)
  rows_at (suc k) (suc y) x d h i =
      let q : place x (suc y) ≡ length r + place x y = omega arith in
      ap (λ (n : ℕ). get_or (r ++ rows k r) n d) q ∙ get_or-append-add r (rows k r) (place x y) d ∙ rows_at k y x d (omega arith) i

between-black : (x : ℕ) → x < CW - 2 → cell_at between (1 + x) ≡ CB_BLACK
between-black = same-below (CW - 2) (λ x. cell_at between (1 + x)) (λ _. CB_BLACK) refl

pub inner_black : (x y : ℕ) → x < CW - 2 → y < CH - 2 → cell_at fresh_grid (place (1 + x) (1 + y)) ≡ CB_BLACK
unfolding fresh_grid
inner_black x y h k =
    let q : place (1 + x) (1 + y) ≡ length edge + place (1 + x) y = omega arith in
    ap (cell_at (edge ++ rows (CH - 2) between ++ edge)) q
    ∙ get_or-append-add edge (rows (CH - 2) between ++ edge) (place (1 + x) y) CB_FILLED
    ∙ get_or-append (rows (CH - 2) between) edge CB_FILLED (place (1 + x) y) (omega (arith, length-rows between refl (CH - 2)))
    ∙ rows_at between refl (CH - 2) y (1 + x) CB_FILLED k (omega arith)
    ∙ between-black x h

-- ---- the creatures drawn

velocity-unit : (d : ℕ) → is_unit (velocity d) ≡ true
unfolding velocity
velocity-unit zero = refl
velocity-unit (suc d) = refl

drawn_ok : (draws : List ℕ) (i : ℕ) → in_range draws i ≡ true → mover_ok fresh_grid (drawn_mover draws i) ≡ true
unfolding mover_ok drawn_mover
drawn_ok draws i r =
    let f = place-fits draws i r in
    let h = code_holds fresh_grid CB_BLACK (1 + draw_at draws i 0) (1 + draw_at draws i 1) (omega arith) (omega arith)
    (inner_black (draw_at draws i 0) (draw_at draws i 1) f.0 f.1) in
    rw (h, velocity-unit (draw_at draws i 2)) (velocity-unit (draw_at draws i 3))

-- ---- the level

-- what its grid is, each part by computing it
pub record Ground (g : List ℕ) : Type 0 where
  pub cells : length g ≡ CN
  pub codes : all is_code g ≡ true
  pub rows : rows_filled g ≡ true
  pub columns : columns_filled g ≡ true
  pub unlined : any is_trail g ≡ false
  pub start : holds_at g CB_FILLED (CW / 2) 0 ≡ true
  pub black : tally CB_BLACK g ≡ INNER
  pub claimed : tally CB_FILLED g ≡ RING
  pub line : tally CB_TRAIL g ≡ 0

pub ground : Ground fresh_grid
unfolding fresh_grid rows_filled columns_filled holds_at tally
ground = record { cells = refl; codes = refl; rows = refl; columns = refl; unlined = refl; start = refl; black = refl; claimed = refl; line = refl }

pub level-fresh : (c : Cutter) (draws : List ℕ) → c.lives ≤ MAX_LIVES → 1 ≤ c.level → c.level ≤ MAX_LEVEL → draws_ok draws (creatures_of c.level) ≡ true
    → Fresh (fresh_level c draws)
unfolding fresh_level at_start
level-fresh c draws h a b o =
    let n = creatures_of c.level in
    let few = creatures-few c.level in
    let es = table n (drawn_mover draws) in
    let len = length-table n (drawn_mover draws) in
    record {
      formed = record {
        cells = ground.cells;
        codes = ground.codes;
        rows = ground.rows;
        columns = ground.columns;
        line = ground.unlined;
        player = ground.start;
        direction = refl;
        slots = slots_length es n len few;
        few = few;
        each = rw (slots-each es n len) (all-table (mover_ok fresh_grid) n (drawn_mover draws) (λ k l. drawn_ok draws k (draws_fit draws n o k l)));
        rest = slots-rest es n len;
        lives = h;
        level = (a, b);
      };
      black = ground.black;
      claimed = ground.claimed;
      line = ground.line;
      creatures = refl;
    }
