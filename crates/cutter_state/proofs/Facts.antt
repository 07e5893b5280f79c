-- What a state that is not refused tells, part by part, and back. Assumes nothing.
use mathlib.Core.Bool.{Bool, true, false, ◌&&◌, beq, false≢true}
use mathlib.Core.Path.{◌≡◌, refl}
use lib.Dec.{leb, eqb}
use lib.ListN.{length}
use borrow.Author.Tests.{eqb-true, leb-true, eq-eqb, le-leb}
use Rattle.laws.specs.Lists.{all, any}
use Rattle.laws.proofs.Choice.{and_left, and_right, and_three}
use Rattle.refusal.specs.Refusal.{number_given, NONE}
use Rattle.refusal.proofs.Checks.{none_passes, passes_none}
use Rattle.cutter_ground.specs.Cells.{CN}
use Rattle.cutter_state.specs.declared.Cutter.{Cutter}
use Rattle.cutter_state.specs.State.{holds_at, creatures, spare}
use Rattle.cutter_state.specs.WellFormed.{MAX_LIVES, MAX_LEVEL, is_code, is_trail, rows_filled, columns_filled, cells_ok, footing, direction_ok}
use Rattle.cutter_state.specs.WellFormed.{player_ok, mover_ok, is_blank, creatures_ok, creatures_fault, numbers_ok, well_formed, refusal_of, WellFormed}
use Rattle.cutter_state.proofs.Which.{fault_clear}
use Rattle.cutter_ground.specs.Movers.{MAX_ENEMIES}

none-well_formed : (c : Cutter) → number_given (refusal_of c) ≡ 0 → well_formed c ≡ true
unfolding refusal_of well_formed
none-well_formed c e = rw (fault_clear c) at (none_passes (cells_ok c.grid c.trailing) (player_ok c) (creatures_fault c) (numbers_ok c) e)

pub well_formed-none : (c : Cutter) → well_formed c ≡ true → refusal_of c ≡ NONE
unfolding refusal_of well_formed
well_formed-none c e = passes_none (cells_ok c.grid c.trailing) (player_ok c) (creatures_fault c) (numbers_ok c) (rw (fault_clear c) e)

alike : (a b : Bool) → beq a b ≡ true → a ≡ b
alike true true e = refl
alike true false e = absurd (false≢true e)
alike false true e = absurd (false≢true e)
alike false false e = refl

alike_refl : (a : Bool) → beq a a ≡ true
alike_refl true = refl
alike_refl false = refl

pub facts : (c : Cutter) → well_formed c ≡ true → WellFormed c
unfolding well_formed cells_ok player_ok creatures_ok numbers_ok
facts c e =
    let g = c.grid in
    let cells = cells_ok g c.trailing in
    let n = and_right (cells && player_ok c && creatures_ok c) (numbers_ok c) e in
    let t = and_three cells (player_ok c) (creatures_ok c) (and_left (cells && player_ok c && creatures_ok c) (numbers_ok c) e) in
    let line = beq (any is_trail g) c.trailing in
    let a = and_three (eqb (length g) CN && all is_code g) (rows_filled g && columns_filled g) line t.0 in
    let place = holds_at g (footing c.trailing) c.px c.py in
    let way = direction_ok c.dx c.dy in
    let few = eqb (length c.enemies) MAX_ENEMIES && leb c.count MAX_ENEMIES in
    let s = and_three few (all (mover_ok g) (creatures c)) (all is_blank (spare c)) t.2 in
    let k = and_three (leb c.lives MAX_LIVES) (leb 1 c.level) (leb c.level MAX_LEVEL) n in
    record {
      cells = eqb-true (length g) CN (and_left (eqb (length g) CN) (all is_code g) a.0);
      codes = and_right (eqb (length g) CN) (all is_code g) a.0;
      rows = and_left (rows_filled g) (columns_filled g) a.1;
      columns = and_right (rows_filled g) (columns_filled g) a.1;
      line = alike (any is_trail g) c.trailing a.2;
      player = and_left place way t.1;
      direction = and_right place way t.1;
      slots = eqb-true (length c.enemies) MAX_ENEMIES (and_left (eqb (length c.enemies) MAX_ENEMIES) (leb c.count MAX_ENEMIES) s.0);
      few = leb-true c.count MAX_ENEMIES (and_right (eqb (length c.enemies) MAX_ENEMIES) (leb c.count MAX_ENEMIES) s.0);
      each = s.1;
      rest = s.2;
      lives = leb-true c.lives MAX_LIVES k.0;
      level = (leb-true 1 c.level k.1, leb-true c.level MAX_LEVEL k.2);
    }

-- a state that is not refused is well formed
pub accepted : (c : Cutter) → number_given (refusal_of c) ≡ 0 → WellFormed c
accepted c e = facts c (none-well_formed c e)

pub from_facts : (c : Cutter) → WellFormed c → well_formed c ≡ true
unfolding well_formed cells_ok player_ok creatures_ok numbers_ok
from_facts c w =
    simp (
      eq-eqb (length c.grid) CN w.cells,
      w.codes,
      w.rows,
      w.columns,
      w.line,
      alike_refl c.trailing,
      w.player,
      w.direction,
      eq-eqb (length c.enemies) MAX_ENEMIES w.slots,
      le-leb c.count MAX_ENEMIES w.few,
      w.each,
      w.rest,
      le-leb c.lives MAX_LIVES w.lives,
      le-leb 1 c.level w.level.0,
      le-leb c.level MAX_LEVEL w.level.1,
    )
