-- What a state that is not refused tells, part by part, and back. Assumes nothing.
use mathlib.Core.Bool.{Bool, true, ◌&&◌}
use mathlib.Core.Path.{◌≡◌, sym}
use lib.Dec.{leb, eqb}
use lib.ListN.{length, drop}
use borrow.Author.Tests.{eqb-true, leb-true, eq-eqb, le-leb}
use Rattle.laws.specs.Lists.{all}
use Rattle.laws.proofs.Choice.{and_left, and_right, and_three}
use Rattle.refusal.specs.Refusal.{number_given, NONE}
use Rattle.refusal.proofs.Checks.{none_passes, passes_none}
use Rattle.mine_state.specs.declared.Mine.{Mine}
use Rattle.mine_state.specs.State.{AREA, MAX_ENEMIES, is_code, creatures, purse}
use Rattle.mine_state.specs.WellFormed.{cells_ok, player_ok, creature_ok, apart, is_blank, creatures_ok, creatures_fault, numbers_ok, well_formed, refusal_of, WellFormed}
use Rattle.mine_state.proofs.Cells.{empty-inside}
use Rattle.mine_state.proofs.Creatures.{slots-on_map}
use Rattle.mine_state.proofs.Which.{fault_clear}
use Rattle.mine_state.specs.CodeState.{Sound}

-- where the arrays have their sizes, the codes decide
pub cells_ok_lem : (m : Mine) {r : Bool} → length m.grid ≡ AREA → length m.falling ≡ AREA → r ≡ all is_code m.grid → cells_ok m ≡ r
unfolding cells_ok
cells_ok_lem m a b e = simp (eq-eqb (length m.grid) AREA a, eq-eqb (length m.falling) AREA b) (sym e)

-- no number is given where all four checks pass, and only there
none-well_formed : (m : Mine) → number_given (refusal_of m) ≡ 0 → well_formed m ≡ true
unfolding refusal_of well_formed
none-well_formed m e = rw (fault_clear m) at (none_passes (cells_ok m) (player_ok m) (creatures_fault m) (numbers_ok m) e)

pub well_formed-none : (m : Mine) → well_formed m ≡ true → refusal_of m ≡ NONE
unfolding refusal_of well_formed
well_formed-none m e = passes_none (cells_ok m) (player_ok m) (creatures_fault m) (numbers_ok m) (rw (fault_clear m) e)

pub facts : (m : Mine) → well_formed m ≡ true → WellFormed m
unfolding well_formed cells_ok creatures_ok numbers_ok
facts m e =
    let sized = eqb (length m.enemies) MAX_ENEMIES && leb m.count MAX_ENEMIES in
    let each = all (creature_ok m.grid) (creatures m) in
    let last = all is_blank (drop m.count m.enemies) in
    let n = and_right (cells_ok m && player_ok m && creatures_ok m) (numbers_ok m) e in
    let t = and_three (cells_ok m) (player_ok m) (creatures_ok m) (and_left (cells_ok m && player_ok m && creatures_ok m) (numbers_ok m) e) in
    let g = and_three (eqb (length m.grid) AREA) (eqb (length m.falling) AREA) (all is_code m.grid) t.0 in
    let c = and_three (sized && each) (apart (creatures m)) (last) t.2 in
    let s = and_three (eqb (length m.enemies) MAX_ENEMIES) (leb m.count MAX_ENEMIES) (each) c.0 in
    let k = and_three (leb (purse m) AREA) (leb 1 m.needed) (leb m.needed AREA) n in
    record {
      cells = eqb-true (length m.grid) AREA g.0;
      marks = eqb-true (length m.falling) AREA g.1;
      codes = g.2;
      player = t.1;
      slots = eqb-true (length m.enemies) MAX_ENEMIES s.0;
      few = leb-true m.count MAX_ENEMIES s.1;
      each = s.2;
      distinct = c.1;
      rest = c.2;
      coins = leb-true (purse m) AREA k.0;
      asked = (leb-true 1 m.needed k.1, leb-true m.needed AREA k.2);
    }

-- a state that is not refused is well formed
pub accepted : (m : Mine) → number_given (refusal_of m) ≡ 0 → WellFormed m
accepted m e = facts m (none-well_formed m e)

pub from_facts : (m : Mine) → WellFormed m → well_formed m ≡ true
unfolding well_formed cells_ok creatures_ok numbers_ok
from_facts m w =
    simp (
      eq-eqb (length m.grid) AREA w.cells,
      eq-eqb (length m.falling) AREA w.marks,
      w.codes,
      w.player,
      eq-eqb (length m.enemies) MAX_ENEMIES w.slots,
      le-leb m.count MAX_ENEMIES w.few,
      w.each,
      w.distinct,
      w.rest,
      le-leb (purse m) AREA w.coins,
      le-leb 1 m.needed w.asked.0,
      le-leb m.needed AREA w.asked.1,
    )

-- what the rules' code needs of a well-formed state
pub sound : (m : Mine) → WellFormed m → Sound m
sound m w =
    record {
      cells = w.cells;
      marks = w.marks;
      slots = w.slots;
      few = w.few;
      placed = slots-on_map m.grid m.count m.enemies w.each w.rest;
      home = empty-inside m.grid m.px m.py w.player;
      coins = w.coins;
    }
