-- The answers of the check, each where it stops: what each test of the code was, and that those before it passed. Assumes nothing.
use mathlib.Core.Bool.{Bool, true, false, ◌&&◌, not}
use mathlib.Core.Path.{◌≡◌, sym, ◌∙◌}
use lib.Dec.{leb}
use lib.ListN.{length}
use borrow.Author.Tests.{eq-eqb, not-true, not-false}
use Rattle.laws.specs.Lists.{all}
use Rattle.refusal.specs.Refusal.{Checked, NONE, CELLS, PLAYER, NUMBERS}
use Rattle.refusal.specs.Faults.{fault_in}
use Rattle.refusal.proofs.Checks.{at_cells, at_player, at_creatures, at_numbers, at_end}
use Rattle.cutter_ground.specs.Movers.{MAX_ENEMIES}
use Rattle.cutter_state.specs.declared.Cutter.{Cutter}
use Rattle.cutter_state.specs.State.{creatures, spare}
use Rattle.cutter_state.specs.WellFormed.{cells_ok, player_ok, mover_ok, is_blank, creatures_ok, creature_fault, creatures_fault, numbers_ok, refusal_of}
use Rattle.cutter_state.proofs.Which.{fault_clear}

module _ (c : Cutter) (full : length c.enemies ≡ MAX_ENEMIES) where
  creatures_ok_lem : {e : Bool} → e ≡ (leb c.count MAX_ENEMIES && all (mover_ok c.grid) (creatures c) && all is_blank (spare c)) → creatures_ok c ≡ e
  unfolding creatures_ok
  creatures_ok_lem e = simp (eq-eqb (length c.enemies) MAX_ENEMIES full) (sym e)

  module _ {a : Bool} (cells : a ≡ cells_ok c.grid c.trailing) where
    pub no_cells : not a ≡ true → CELLS ≡ refusal_of c
    unfolding refusal_of
    no_cells t = at_cells (cells_ok c.grid c.trailing) (player_ok c) (creatures_fault c) (numbers_ok c) (fault_clear c) (sym cells ∙ not-true a t)

    module _ (a-passed : not a ≡ false) {b : Bool} (player : b ≡ player_ok c) where
      one : cells_ok c.grid c.trailing ≡ true
      one = sym cells ∙ not-false a a-passed

      pub no_player : not b ≡ true → PLAYER ≡ refusal_of c
      unfolding refusal_of
      no_player t =
          at_player (cells_ok c.grid c.trailing) (player_ok c) (creatures_fault c) (numbers_ok c) (fault_clear c) one (sym player ∙ not-true b t)

      module _ (b-passed : not b ≡ false) {d : Bool} (them : d ≡ (leb c.count MAX_ENEMIES && all (mover_ok c.grid) (creatures c) && all is_blank (spare c))) where
        two : player_ok c ≡ true
        two = sym player ∙ not-false b b-passed

        pub no_creatures : not d ≡ true → {r : Checked} → r ≡ fault_in MAX_ENEMIES (creature_fault c.grid) is_blank c.enemies c.count → r ≡ refusal_of c
        unfolding refusal_of creatures_fault
        no_creatures t e =
            e
            ∙ at_creatures (cells_ok c.grid c.trailing) (player_ok c) (creatures_fault c) (numbers_ok c) (fault_clear c) one two (creatures_ok_lem them ∙ not-true d t)

        module _ (d-passed : not d ≡ false) {n : Bool} (numbers : n ≡ numbers_ok c) where
          three : creatures_ok c ≡ true
          three = creatures_ok_lem them ∙ not-false d d-passed

          pub no_numbers : not n ≡ true → NUMBERS ≡ refusal_of c
          unfolding refusal_of
          no_numbers t =
              at_numbers (cells_ok c.grid c.trailing) (player_ok c) (creatures_fault c) (numbers_ok c) (fault_clear c) one two three (sym numbers ∙ not-true n t)

          pub all_right : not n ≡ false → NONE ≡ refusal_of c
          unfolding refusal_of
          all_right t = at_end (cells_ok c.grid c.trailing) (player_ok c) (creatures_fault c) (numbers_ok c) (fault_clear c) one two three (sym numbers ∙ not-false n t)
