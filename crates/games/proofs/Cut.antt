-- The fresh level, cut down the middle. Assumes nothing.
use mathlib.Core.Bool.{Bool, true, false, cond}
use mathlib.Core.List.{List, [], ◌∷◌, ◌++◌, zip_with}
use mathlib.Core.Path.{◌≡◌, refl, sym, ap, ap₂, subst, ◌∙◌}
use Prim.Native.Nat.{ℕ, ◌-◌}
use lib.Dec.{ltb}
use lib.IntN.{pos}
use lib.ListN.{length, replicate}
use Rattle.laws.specs.Lists.{tally, table}
use Rattle.cutter_ground.specs.Cells.{CW, CH, CN, CB_BLACK, CB_FILLED, CB_TRAIL}
use Rattle.cutter_ground.specs.declared.Mover.{Mover}
use Rattle.cutter_joined.specs.Joined.{Right}
use Rattle.cutter_joined.proofs.Certificate.{every4, cell_ok, right_test, right_by_test}
use Rattle.cutter_closing.specs.Counted.{MAX_COMP, roots_from, counted, cells_in}
use Rattle.cutter_closing.specs.declared.Cut.{Cut}
use Rattle.cutter_closing.specs.Closing.{claim_line, best, kept_of, claim, remaining, close_cut}
use Rattle.cutter_closing.proofs.Labels.{closing_by}
use Rattle.cutter_state.specs.declared.Cutter.{Cutter}
use Rattle.cutter_rules.specs.Ahead.{along}
use Rattle.cutter_rules.specs.Level.{edge, rows, fresh_grid, velocity, drawn_mover, at_start, fresh_level}
use Rattle.cutter_rules.specs.Step.{unit_x, unit_y, directed, stepped, met, trailing_step, walking_step, cut_closed, at_border}
use Rattle.games.specs.Cases.{again, cut_down, Split}
use Rattle.cutter_ground.specs.Movers.{slots}
use Rattle.controls.specs.Keys.{DOWN}

-- the grid with 30 line cells below the start
abbrev line_row : List ℕ
line_row = CB_FILLED ∷ replicate 31 CB_BLACK ++ (CB_TRAIL ∷ replicate 30 CB_BLACK) ++ (CB_FILLED ∷ [])

unfoldable line_grid : List ℕ
line_grid = edge ++ rows (CH - 2) line_row ++ edge

-- its two regions: the earliest cell of each
abbrev label_row : List ℕ
label_row = CN ∷ replicate 31 65 ++ (CN ∷ replicate 30 97) ++ (CN ∷ [])

unfoldable sides : List ℕ
sides = replicate CW CN ++ rows (CH - 2) label_row ++ replicate CW CN

sides_right : Right (claim_line line_grid) sides
unfolding right_test every4 cell_ok line_grid sides
sides_right = right_by_test (claim_line line_grid) sides refl

-- the player under way downwards, in the row y
abbrev going : Cutter → List ℕ → ℕ → Bool → List Mover → ℕ → Cutter
going c g y t es n = record {
  grid = g;
  px = 32;
  py = y;
  dx = pos 0;
  dy = pos 1;
  trailing = t;
  enemies = slots es;
  count = n;
  level = c.level;
  lives = c.lives;
  dead = c.dead;
  won_level = c.won_level;
}

-- creatures at (10,10) and (50,10)
abbrev west : ℕ → ℕ → Mover
west vx vy = record { x = 10; y = 10; vx = velocity vx; vy = velocity vy }

abbrev east : ℕ → ℕ → Mover
east vx vy = record { x = 50; y = 10; vx = velocity vx; vy = velocity vy }

lined : length line_grid ≡ CN
unfolding line_grid
lined = refl

-- the two regions, by their earliest cells
abbrev both : List ℕ
both = 65 ∷ 97 ∷ []

roots : counted MAX_COMP sides ≡ both
unfolding roots_from sides
roots = refl

left-cells : cells_in sides 65 ≡ 930
unfolding tally sides
left-cells = refl

right-cells : cells_in sides 97 ≡ 900
unfolding tally sides
right-cells = refl

-- where the region w is kept, the other is claimed
abbrev keeping : ℕ → List ℕ
keeping w = claim both w (claim_line line_grid) sides

closed_keeping : (es : List Mover) (w : ℕ) → kept_of sides es both ≡ w → (close_cut MAX_COMP line_grid es).grid ≡ keeping w
closed_keeping es w k =
    ap (λ (r : Cut). r.grid) (closing_by MAX_COMP line_grid sides es lined sides_right)
    ∙ ap (λ (rs : List ℕ). claim rs (kept_of sides es rs) (claim_line line_grid) sides) roots
    ∙ ap keeping k

-- and the creatures in it remain
closed-count : (es : List Mover) (w : ℕ) → kept_of sides es both ≡ w → (close_cut MAX_COMP line_grid es).count ≡ length (remaining sides w es)
closed-count es w k =
    ap (λ (r : Cut). r.count) (closing_by MAX_COMP line_grid sides es lined sides_right)
    ∙ ap (λ (rs : List ℕ). length (remaining sides (kept_of sides es rs) es)) roots
    ∙ ap (λ (r : ℕ). length (remaining sides r es)) k

abbrev Ends : ℕ → ℕ → List ℕ → Type 0
Ends claimed black g = (tally CB_FILLED g ≡ claimed) × (tally CB_BLACK g ≡ black)

left-kept : Ends 1118 930 (keeping 65)
unfolding claim zip_with tally line_grid sides
left-kept = (refl, refl)

right_kept : Ends 1148 900 (keeping 97)
unfolding claim zip_with tally line_grid sides
right_kept = (refl, refl)

-- 30 steps that lay line, and one that closes
record Cutting (c : Cutter) (es : List Mover) (n w : ℕ) : Type 0 where
  lay : again 30 stepped (going c fresh_grid 0 false es n) ≡ going c line_grid 30 true es n
  last : (stepped (going c line_grid 30 true es n)).grid ≡ (close_cut MAX_COMP line_grid es).grid
  counts : (stepped (going c line_grid 30 true es n)).count ≡ (close_cut MAX_COMP line_grid es).count
  kept : kept_of sides es both ≡ w

cut_keeping : {c : Cutter} {es : List Mover} {n w : ℕ} → Cutting c es n w → (s : Cutter) → s ≡ going c fresh_grid 0 false es n → (again 31 stepped s).grid ≡ keeping w
cut_keeping {es = es} {w = w} k s start =
    ap (λ (x : Cutter). (again 31 stepped x).grid) start
    ∙ ap (λ (x : Cutter). (stepped x).grid) k.lay
    ∙ k.last
    ∙ closed_keeping es w k.kept

cut-count : {c : Cutter} {es : List Mover} {n w : ℕ} → Cutting c es n w → (s : Cutter) → s ≡ going c fresh_grid 0 false es n
    → (again 31 stepped s).count ≡ length (remaining sides w es)
cut-count {es = es} {w = w} k s start =
    ap (λ (x : Cutter). (again 31 stepped x).count) start
    ∙ ap (λ (x : Cutter). (stepped x).count) k.lay
    ∙ k.counts
    ∙ closed-count es w k.kept

module _ (c : Cutter) (vx vy : ℕ) where
  cutting_west : Cutting c (west vx vy ∷ []) 1 65
  unfolding stepped met trailing_step walking_step at_border cut_closed along fresh_grid line_grid best tally sides
  cutting_west = record { lay = refl; last = refl; counts = refl; kept = refl }

  cutting_east : Cutting c (east vx vy ∷ []) 1 97
  unfolding stepped met trailing_step walking_step at_border cut_closed along fresh_grid line_grid best tally sides
  cutting_east = record { lay = refl; last = refl; counts = refl; kept = refl }

  start_west : c.level ≡ 1 → directed (fresh_level c (9 ∷ 9 ∷ vx ∷ vy ∷ [])) DOWN ≡ going c fresh_grid 0 false (west vx vy ∷ []) 1
  unfolding fresh_level at_start drawn_mover table unit_x unit_y
  start_west e = rw e

  start_east : c.level ≡ 1 → directed (fresh_level c (49 ∷ 9 ∷ vx ∷ vy ∷ [])) DOWN ≡ going c fresh_grid 0 false (east vx vy ∷ []) 1
  unfolding fresh_level at_start drawn_mover table unit_x unit_y
  start_east e = rw e

  pub p9 : c.level ≡ 1 → Split 1118 930 (cut_down c (9 ∷ 9 ∷ vx ∷ vy ∷ []))
  p9 e = subst (Ends 1118 930) (sym (cut_keeping cutting_west (directed (fresh_level c (9 ∷ 9 ∷ vx ∷ vy ∷ [])) DOWN) (start_west e))) left-kept

  -- its creature remains
  remaining_west : length (remaining sides 65 (west vx vy ∷ [])) ≡ 1
  unfolding remaining sides
  remaining_west = refl

  pub p9-count : c.level ≡ 1 → (cut_down c (9 ∷ 9 ∷ vx ∷ vy ∷ [])).count ≡ 1
  p9-count e = cut-count cutting_west (directed (fresh_level c (9 ∷ 9 ∷ vx ∷ vy ∷ [])) DOWN) (start_west e) ∙ remaining_west

  pub p10 : c.level ≡ 1 → Split 1148 900 (cut_down c (49 ∷ 9 ∷ vx ∷ vy ∷ []))
  p10 e = subst (Ends 1148 900) (sym (cut_keeping cutting_east (directed (fresh_level c (49 ∷ 9 ∷ vx ∷ vy ∷ [])) DOWN) (start_east e))) right_kept

  module _ (wx wy : ℕ) where
    -- as many creatures on each side: the one with more cells is kept
    kept-both : kept_of sides (west vx vy ∷ east wx wy ∷ []) both ≡ 65
    unfolding best sides
    kept-both = ap₂ (λ (l r : ℕ). cond (ltb l r) 97 65) left-cells right-cells

    cutting_both : Cutting c (west vx vy ∷ east wx wy ∷ []) 2 65
    unfolding stepped met trailing_step walking_step at_border cut_closed along fresh_grid line_grid
    cutting_both = record { lay = refl; last = refl; counts = refl; kept = kept-both }

    start-both : c.level ≡ 2 → directed (fresh_level c (9 ∷ 9 ∷ vx ∷ vy ∷ 49 ∷ 9 ∷ wx ∷ wy ∷ [])) DOWN ≡ going c fresh_grid 0 false (west vx vy ∷ east wx wy ∷ []) 2
    unfolding fresh_level at_start drawn_mover table unit_x unit_y
    start-both e = rw e

    pub p11 : c.level ≡ 2 → Split 1118 930 (cut_down c (9 ∷ 9 ∷ vx ∷ vy ∷ 49 ∷ 9 ∷ wx ∷ wy ∷ []))
    p11 e = subst (Ends 1118 930) (sym (cut_keeping cutting_both (directed (fresh_level c (9 ∷ 9 ∷ vx ∷ vy ∷ 49 ∷ 9 ∷ wx ∷ wy ∷ [])) DOWN) (start-both e))) left-kept

    -- of the two the one on the left
    remaining-both : length (remaining sides 65 (west vx vy ∷ east wx wy ∷ [])) ≡ 1
    unfolding remaining sides
    remaining-both = refl

    pub p11-count : c.level ≡ 2 → (cut_down c (9 ∷ 9 ∷ vx ∷ vy ∷ 49 ∷ 9 ∷ wx ∷ wy ∷ [])).count ≡ 1
    p11-count e =
        cut-count cutting_both (directed (fresh_level c (9 ∷ 9 ∷ vx ∷ vy ∷ 49 ∷ 9 ∷ wx ∷ wy ∷ [])) DOWN) (start-both e) ∙ remaining-both
