-- The answers of the check, each where it stops: what each test of the code was, and that those before it passed. Assumes nothing.
use mathlib.Core.Bool.{Bool, true, false, ◌&&◌}
use mathlib.Core.Path.{◌≡◌, sym, ◌∙◌}
use lib.Dec.{leb}
use lib.ListN.{length, drop}
use borrow.Author.Tests.{eq-eqb}
use Rattle.laws.specs.Lists.{all}
use Rattle.refusal.specs.Refusal.{Checked, NONE, CELLS, PLAYER, NUMBERS}
use Rattle.refusal.specs.Faults.{fault_in}
use Rattle.refusal.proofs.Checks.{at_cells, at_player, at_creatures, at_numbers, at_end}
use Rattle.mine_state.specs.declared.Mine.{Mine}
use Rattle.mine_state.specs.State.{AREA, MAX_ENEMIES, is_code, creatures, purse}
use Rattle.mine_state.specs.WellFormed.{cells_ok, player_ok, creature_ok, apart, is_blank, creatures_ok, creature_fault, creatures_fault, numbers_ok, refusal_of}
use Rattle.mine_state.proofs.Facts.{cells_ok_lem}
use Rattle.mine_state.proofs.Which.{fault_clear}

-- what the types of a state's fields tell
pub record Sized (m : Mine) : Type 0 where
  pub cells : length m.grid ≡ AREA
  pub marks : length m.falling ≡ AREA
  pub slots : length m.enemies ≡ MAX_ENEMIES

module _ (m : Mine) (s : Sized m) where
  creatures_ok_lem : {e : Bool} → e ≡ (leb m.count MAX_ENEMIES && all (creature_ok m.grid) (creatures m) && apart (creatures m) && all is_blank (drop m.count m.enemies))
      → creatures_ok m ≡ e
  unfolding creatures_ok
  creatures_ok_lem e = simp (eq-eqb (length m.enemies) MAX_ENEMIES s.slots) (sym e)

  module _ {a : Bool} (cells : a ≡ all is_code m.grid) where
    pub no_cells : a ≡ false → CELLS ≡ refusal_of m
    unfolding refusal_of
    no_cells t = at_cells (cells_ok m) (player_ok m) (creatures_fault m) (numbers_ok m) (fault_clear m) (cells_ok_lem m s.cells s.marks cells ∙ t)

    module _ (a-passed : a ≡ true) {b : Bool} (player : b ≡ player_ok m) where
      one : cells_ok m ≡ true
      one = cells_ok_lem m s.cells s.marks cells ∙ a-passed

      pub no_player : b ≡ false → PLAYER ≡ refusal_of m
      unfolding refusal_of
      no_player t = at_player (cells_ok m) (player_ok m) (creatures_fault m) (numbers_ok m) (fault_clear m) one (sym player ∙ t)

      module _ (b-passed : b ≡ true) {c : Bool}
          (them : c ≡ (leb m.count MAX_ENEMIES && all (creature_ok m.grid) (creatures m) && apart (creatures m) && all is_blank (drop m.count m.enemies))) where
        two : player_ok m ≡ true
        two = sym player ∙ b-passed

        pub no_creatures : c ≡ false → {r : Checked}
            → r ≡ fault_in MAX_ENEMIES (creature_fault m.grid m.enemies) is_blank m.enemies m.count → r ≡ refusal_of m
        unfolding refusal_of creatures_fault
        no_creatures t e =
            e
            ∙ at_creatures (cells_ok m) (player_ok m) (creatures_fault m) (numbers_ok m) (fault_clear m) one two (creatures_ok_lem them ∙ t)

        module _ (c-passed : c ≡ true) {d : Bool} (numbers : d ≡ (leb (purse m) AREA && leb 1 m.needed && leb m.needed AREA)) where
          three : creatures_ok m ≡ true
          three = creatures_ok_lem them ∙ c-passed

          pub no_numbers : d ≡ false → NUMBERS ≡ refusal_of m
          unfolding refusal_of numbers_ok
          no_numbers t =
              at_numbers (cells_ok m) (player_ok m) (creatures_fault m) (numbers_ok m) (fault_clear m) one two three (sym numbers ∙ t)

          pub all_right : d ≡ true → NONE ≡ refusal_of m
          unfolding refusal_of numbers_ok
          all_right t = at_end (cells_ok m) (player_ok m) (creatures_fault m) (numbers_ok m) (fault_clear m) one two three (sym numbers ∙ t)
