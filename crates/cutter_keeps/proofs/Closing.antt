-- A step that closes a cut: by that closing's numbers. Assumes nothing.
use mathlib.Core.Bool.{true, false}
use mathlib.Core.List.{List, [], ◌∷◌}
use mathlib.Core.Path.{◌≡◌, refl, sym, ◌∙◌}
use Prim.Native.Nat.{ℕ, ◌-◌, ◌<◌}
use native.Mathlib.Omega.{arith}
use lib.ListN.{length, take}
use lib.Seq.{length-take-le}
use borrow.Author.Tests.{eqb-true}
use Rattle.laws.specs.Lists.{all}
use Rattle.laws.proofs.Choice.{and_left, and_right, and_both}
use Rattle.laws.proofs.Lists.{all_weaken}
use Rattle.cutter_ground.specs.Cells.{CN, CB_BLACK, CB_FILLED, cell_at, black_at}
use Rattle.cutter_ground.specs.declared.Mover.{Mover}
use Rattle.cutter_closing.specs.Counted.{MAX_COMP}
use Rattle.cutter_closing.specs.Closing.{close_cut}
use Rattle.cutter_closing.specs.declared.Cut.{Cut}
use Rattle.cutter_closing.proofs.Sums.{claimed-after, black-after, length-after, all_after, line_after, no_line_after, claimed-stays, creatures-after}
use Rattle.cutter_closing.proofs.Sums.{spare-after, few-after, slots-after, all_left, left_on_black}
use Rattle.cutter_state.specs.declared.Cutter.{Cutter}
use Rattle.cutter_state.specs.State.{creatures}
use Rattle.cutter_state.specs.WellFormed.{is_code, mover_ok, WellFormed}
use Rattle.cutter_state.proofs.Ring.{rows-kept, columns-kept}
use Rattle.cutter_rules.specs.Step.{entered, cut_closed, at_border}
use Rattle.cutter_rules.proofs.Apart.{mover_black}
use Rattle.cutter_keeps.specs.Kept.{Closed}
use Rattle.cutter_keeps.specs.Steps.{taken_by, gone_by}
use Rattle.cutter_keeps.proofs.Border.{border_kept}
use Rattle.cutter_keeps.proofs.Changes.{closed_then}
use Rattle.cutter_keeps.proofs.Creatures.{cell_holds, mover_still, zeros_blank}
use Rattle.cutter_ground.specs.Movers.{MAX_ENEMIES, place_of}

-- creatures that were right by themselves, and stand on black now
movers_on : (g h : List ℕ) (es : List Mover) → all (mover_ok g) es ≡ true → all (λ e. black_at h (place_of e)) es ≡ true → all (mover_ok h) es ≡ true
movers_on g h [] a b = refl
movers_on g h (e ∷ es) a b =
    let on = eqb-true (cell_at h (place_of e)) CB_BLACK (and_left (black_at h (place_of e)) (all (λ e. black_at h (place_of e)) es) b) in
    and_both (mover_ok h e) (all (mover_ok h) es)
    (mover_still g h e (λ _. on) (and_left (mover_ok g e) (all (mover_ok g) es) a))
    (movers_on g h es (and_right (mover_ok g e) (all (mover_ok g) es) a) (and_right (black_at h (place_of e)) (all (λ e. black_at h (place_of e)) es) b))

module _ {c : Cutter} (w : WellFormed c) (t : ℕ) (h : t < CN) (f : cell_at c.grid t ≡ CB_FILLED) where
  abbrev g : List ℕ
  g = c.grid

  abbrev es : List Mover
  es = creatures c

  abbrev cut : Cut
  cut = close_cut MAX_COMP g es

  abbrev g' : List ℕ
  g' = cut.grid

  many : length es ≡ c.count
  many = length-take-le c.count c.enemies (omega (arith, w.few, w.slots))

  filled : (i : ℕ) → cell_at g i ≡ CB_FILLED → cell_at g' i ≡ CB_FILLED
  filled = claimed-stays MAX_COMP g es w.cells

  pub cut-closed : Closed c (cut_closed (entered c t)) (taken_by c) (gone_by c)
  unfolding cut_closed
  cut-closed =
      record {
        formed = record {
          cells = length-after MAX_COMP g es w.cells;
          codes = all_after MAX_COMP g es w.cells is_code refl w.codes;
          rows = rows-kept g g' filled w.rows;
          columns = columns-kept g g' filled w.columns;
          line = no_line_after MAX_COMP g es w.cells;
          player = cell_holds g' CB_FILLED t h (filled t f);
          direction = w.direction;
          slots = slots-after MAX_COMP g es w.cells (omega (arith, many, w.few));
          few = omega (arith, few-after MAX_COMP g es w.cells, many, w.few);
          each = movers_on g g' (take cut.count cut.enemies) (all_left MAX_COMP g es w.cells (mover_ok g) w.each)
              (left_on_black MAX_COMP g es w.cells (all_weaken (mover_ok g) (λ e. black_at g (place_of e)) (mover_black g) es w.each));
          rest = rw (spare-after MAX_COMP g es w.cells) (zeros_blank (MAX_ENEMIES - cut.count));
          lives = w.lives;
          level = w.level;
        };
        black = black-after MAX_COMP g es w.cells;
        claimed = claimed-after MAX_COMP g es w.cells;
        line = line_after MAX_COMP g es w.cells;
        creatures = sym many ∙ creatures-after MAX_COMP g es w.cells;
      }

  off-line : (cut_closed (entered c t)).trailing ≡ false
  unfolding cut_closed
  off-line = refl

  pub closing : Closed c (at_border (cut_closed (entered c t))) (taken_by c) (gone_by c)
  closing = closed_then cut-closed (border_kept (cut_closed (entered c t)) cut-closed.formed off-line)
