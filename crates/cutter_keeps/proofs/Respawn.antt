-- Respawn: line is back to black. Assumes nothing.
use mathlib.Core.Bool.{true, false, not}
use mathlib.Core.List.{List, map}
use mathlib.Core.Logic.{⊎_elim}
use mathlib.Core.Path.{◌≡◌, refl, ◌∙◌, ap}
use Prim.Native.Nat.{ℕ, ◌+◌, ◌/◌}
use native.Mathlib.Omega.{arith}
use lib.Dec.{eqb}
use lib.ListN.{length-map, get_or-map}
use borrow.Author.Tests.{eq-eqb, ne_eqb}
use Rattle.laws.specs.Lists.{all, bit, tally}
use Rattle.laws.proofs.Choice.{same?}
use Rattle.laws.proofs.Counts.{count_map, count_plus}
use Rattle.laws.proofs.Filter.{count_ext, all_map, all_true, count_zero, any_zero}
use Rattle.cutter_ground.specs.Cells.{CW, CB_BLACK, CB_FILLED, CB_TRAIL, cell_at}
use Rattle.cutter_state.specs.declared.Cutter.{Cutter}
use Rattle.cutter_state.specs.State.{creatures}
use Rattle.cutter_state.specs.WellFormed.{is_code, is_trail, WellFormed}
use Rattle.cutter_state.proofs.Ring.{code_holds, row_filled, rows-kept, columns-kept}
use Rattle.cutter_rules.specs.Level.{at_start}
use Rattle.cutter_rules.specs.Step.{line_erased, back_at_start, respawned}
use Rattle.cutter_keeps.specs.Kept.{Erased}
use Rattle.cutter_keeps.proofs.Border.{border_kept}
use Rattle.cutter_keeps.proofs.Changes.{erased_then}
use Rattle.cutter_keeps.proofs.Creatures.{movers_still}
use Rattle.cutter_ground.specs.Movers.{place_of}

-- ---- a code

erased_black : (x : ℕ) → bit (eqb (line_erased x) CB_BLACK) ≡ bit (eqb x CB_BLACK) + bit (eqb x CB_TRAIL)
erased_black x = ⊎_elim (λ e. rw (eq-eqb x CB_TRAIL e, ne_eqb x CB_BLACK (λ z. omega arith))) (λ n. rw (ne_eqb x CB_TRAIL n) (omega arith)) (same? x CB_TRAIL)

erased_claimed : (x : ℕ) → eqb (line_erased x) CB_FILLED ≡ eqb x CB_FILLED
erased_claimed x = ⊎_elim (λ e. rw (eq-eqb x CB_TRAIL e, ne_eqb x CB_FILLED (λ z. omega arith))) (λ n. rw (ne_eqb x CB_TRAIL n)) (same? x CB_TRAIL)

erased_line : (x : ℕ) → is_trail (line_erased x) ≡ false
erased_line x = ⊎_elim (λ e. rw (eq-eqb x CB_TRAIL e)) (λ n. rw (ne_eqb x CB_TRAIL n) (ne_eqb x CB_TRAIL n)) (same? x CB_TRAIL)

erased_code : (x : ℕ) → is_code x ≡ true → is_code (line_erased x) ≡ true
erased_code x c = ⊎_elim (λ e. rw (eq-eqb x CB_TRAIL e)) (λ n. rw (ne_eqb x CB_TRAIL n) c) (same? x CB_TRAIL)

-- ---- the grid

module _ (g : List ℕ) where
  abbrev h : List ℕ
  h = map line_erased g

  -- black stays black, and claimed stays claimed
  erased_at : (i k : ℕ) → line_erased k ≡ k → cell_at g i ≡ k → cell_at h i ≡ k
  erased_at i k f e = get_or-map line_erased g i CB_FILLED ∙ ap line_erased e ∙ f

  none-line : all (λ x. not (is_trail x)) h ≡ true
  none-line = all_map (λ x. not (is_trail x)) (λ _. true) line_erased (λ x _. ap not (erased_line x)) g (all_true g)

  black_erased : tally CB_BLACK h ≡ tally CB_BLACK g + tally CB_TRAIL g
  unfolding tally
  black_erased = count_map (λ x. eqb x CB_BLACK) line_erased g ∙ count_plus (λ x. eqb (line_erased x) CB_BLACK) (λ x. eqb x CB_BLACK) (λ x. eqb x CB_TRAIL) erased_black g

  claimed_erased : tally CB_FILLED h ≡ tally CB_FILLED g
  unfolding tally
  claimed_erased = count_map (λ x. eqb x CB_FILLED) line_erased g
      ∙ count_ext (λ x. eqb (line_erased x) CB_FILLED) (λ x. eqb x CB_FILLED) (λ _. true) (λ x _. erased_claimed x) g (all_true g)

  line_erased_lem : tally CB_TRAIL h ≡ 0
  unfolding tally
  line_erased_lem = count_zero is_trail h none-line

-- ---- the state

pub erased_start : (c : Cutter) → WellFormed c → Erased c (back_at_start c)
unfolding at_start
erased_start c w =
    let g = c.grid in
    let filled : (i : ℕ) → cell_at g i ≡ CB_FILLED → cell_at (map line_erased g) i ≡ CB_FILLED = λ i e. erased_at g i CB_FILLED refl e in
    record {
      formed = record {
        cells = length-map g line_erased ∙ w.cells;
        codes = all_map is_code is_code line_erased erased_code g w.codes;
        rows = rows-kept g (map line_erased g) filled w.rows;
        columns = columns-kept g (map line_erased g) filled w.columns;
        line = any_zero is_trail (map line_erased g) (none-line g);
        player = code_holds (map line_erased g) CB_FILLED (CW / 2) 0 (omega arith) (omega arith) (filled (CW / 2) (row_filled g w.rows (CW / 2) (omega arith)).0);
        direction = refl;
        slots = w.slots;
        few = w.few;
        each = movers_still g (map line_erased g) (λ _. false) (λ e _ b. erased_at g (place_of e) CB_BLACK refl b) (creatures c)
            (any_zero (λ _. false) (creatures c) (all_true (creatures c))) w.each;
        rest = w.rest;
        lives = w.lives;
        level = w.level;
      };
      black = black_erased g;
      claimed = claimed_erased g;
      line = line_erased_lem g;
      creatures = refl;
    }

pub respawn_erased : (c : Cutter) → WellFormed c → Erased c (respawned c)
unfolding respawned at_start
respawn_erased c w = let e = erased_start c w in erased_then e (border_kept (back_at_start c) e.formed refl)
