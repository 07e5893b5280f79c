-- Laying line on a black cell where no creature is: black is one less, and line one more. Assumes nothing.
use mathlib.Core.Bool.{Bool, true, false}
use mathlib.Core.List.{List}
use mathlib.Core.Path.{◌≡◌, refl, sym, ◌∙◌, ap}
use Prim.Native.Nat.{ℕ, ◌<◌}
use native.Mathlib.Omega.{arith}
use lib.Dec.{eqb}
use lib.ListN.{length, get_or, set, length-set}
use lib.Seq.{get_or-set_same, get_or-set_other}
use borrow.Author.Tests.{eq-eqb, eqb-false}
use Rattle.laws.specs.Lists.{all, any, tally}
use Rattle.laws.proofs.Lists.{get_or_default, all_set, any_at}
use Rattle.laws.proofs.Counts.{count_set, tally_lose, tally_gain}
use Rattle.cutter_ground.specs.Cells.{CN, CB_BLACK, CB_FILLED, CB_TRAIL, cell_at}
use Rattle.cutter_ground.specs.declared.Mover.{Mover}
use Rattle.cutter_state.specs.declared.Cutter.{Cutter}
use Rattle.cutter_state.specs.State.{creatures}
use Rattle.cutter_state.specs.Change.{with_trailing}
use Rattle.cutter_state.specs.WellFormed.{is_code, is_trail, mover_ok, WellFormed}
use Rattle.cutter_state.proofs.Ring.{rows-kept, columns-kept}
use Rattle.cutter_rules.specs.Step.{laid}
use Rattle.cutter_keeps.specs.Kept.{Laid}
use Rattle.cutter_keeps.proofs.Creatures.{cell_holds, movers_still}
use Rattle.cutter_ground.specs.Movers.{place_of}

module _ (g : List ℕ) (t : ℕ) (h : t < length g) (b : cell_at g t ≡ CB_BLACK) where
  laid-other : (i : ℕ) → (i ≡ t → ⊥) → cell_at (set g t CB_TRAIL) i ≡ cell_at g i
  laid-other i n = get_or-set_other g t i CB_TRAIL CB_FILLED n

  laid_filled : (i : ℕ) → cell_at g i ≡ CB_FILLED → cell_at (set g t CB_TRAIL) i ≡ CB_FILLED
  laid_filled i e =
      laid-other i (λ q. let z : ◌≡◌ {A = ℕ} 0 1 = sym b ∙ ap (cell_at g) (sym q) ∙ e in omega arith) ∙ e

  laid_movers : (es : List Mover) → any (λ e. eqb (place_of e) t) es ≡ false → all (mover_ok g) es ≡ true → all (mover_ok (set g t CB_TRAIL)) es ≡ true
  laid_movers = movers_still g (set g t CB_TRAIL) (λ e. eqb (place_of e) t) (λ e n q. laid-other (place_of e) (eqb-false (place_of e) t n) ∙ q)

  laid-claimed : tally CB_FILLED (set g t CB_TRAIL) ≡ tally CB_FILLED g
  unfolding tally
  laid-claimed = let q = rw b at (count_set (λ x. eqb x CB_FILLED) g t CB_TRAIL CB_FILLED h) in omega arith

pub laying : {c : Cutter} → WellFormed c → (t : ℕ) (d : Bool) → t < CN → d ≡ true → cell_at c.grid t ≡ CB_BLACK → any (λ e. eqb (place_of e) t) (creatures c) ≡ false
    → Laid c (with_trailing (laid c t) d)
laying {c} w t d h f b n =
    let g = c.grid in
    let i : t < length g = omega (arith, w.cells) in
    let s = set g t CB_TRAIL in
    let z : get_or g t 0 ≡ 0 = get_or_default g t 0 CB_FILLED i ∙ b in
    let on : cell_at s t ≡ CB_TRAIL = get_or-set_same g t CB_TRAIL CB_FILLED i in
    record {
      formed = record {
        cells = length-set g t CB_TRAIL ∙ w.cells;
        codes = all_set is_code g t CB_TRAIL w.codes refl;
        rows = rows-kept g s (laid_filled g t i b) w.rows;
        columns = columns-kept g s (laid_filled g t i b) w.columns;
        line = any_at is_trail s t CB_FILLED (simp length-set i) (eq-eqb (cell_at s t) CB_TRAIL on) ∙ sym f;
        player = rw f (cell_holds s CB_TRAIL t h on);
        direction = w.direction;
        slots = w.slots;
        few = w.few;
        each = laid_movers g t i b (creatures c) n w.each;
        rest = w.rest;
        lives = w.lives;
        level = w.level;
      };
      black = omega (arith, tally_lose g t CB_BLACK CB_TRAIL i z (λ e. omega arith));
      claimed = laid-claimed g t i b;
      line = omega (arith, tally_gain g t CB_TRAIL i (λ e. omega arith));
      creatures = refl;
    }
