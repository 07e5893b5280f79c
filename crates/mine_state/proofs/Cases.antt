-- The order of the checks, and the nearest wrong creatures. Computed; assumes nothing.
use mathlib.Core.Bool.{true, false}
use mathlib.Core.List.{List, [], ◌∷◌}
use mathlib.Core.Path.{◌≡◌, refl}
use Prim.Native.Nat.{ℕ}
use lib.ListN.{replicate}
use Rattle.refusal.specs.Refusal.{NONE, CELLS, PLAYER, TOO_MANY, OFF_GRID, WRONG_CELL, HEADING, SHARED_CELL, SPARE_SLOT, NUMBERS}
use Rattle.refusal.specs.Faults.{first_fault, fault_in}
use Rattle.mine_state.specs.declared.Enemy.{Enemy}
use Rattle.mine_state.specs.declared.Mine.{Mine}
use Rattle.mine_state.specs.State.{W, H, AREA, MAX_ENEMIES, EMPTY, WALL, empty_at, blank_slot}
use Rattle.mine_state.specs.Change.{with_cell}
use Rattle.mine_state.specs.WellFormed.{cells_ok, creatures_ok, creature_fault, creatures_fault, numbers_ok, refusal_of}

abbrev facing : ℕ → ℕ → ℕ → Enemy
facing x y dir = record { x = x; y = y; dir = dir }

abbrev creature : ℕ → Enemy
creature x = facing x 1 0

-- all cells of one code, the player in a column of row 1, the slots, so many creatures, so many coins needed
abbrev state_of : ℕ → ℕ → List Enemy → ℕ → ℕ → Mine
state_of t x es n needed = record
    { grid = replicate AREA t; falling = replicate AREA false; px = x; py = 1; enemies = es; count = n; coins = 0; needed = needed; dead = false; won = false }

abbrev zeros : List Enemy
zeros = replicate MAX_ENEMIES blank_slot

-- eight in a row, the last in a column of its own
abbrev eight : ℕ → List Enemy
eight x = creature 1 ∷ creature 2 ∷ creature 3 ∷ creature 4 ∷ creature 5 ∷ creature 6 ∷ creature 7 ∷ creature x ∷ []

-- a state wrong in each of the four ways, put right one after the other
pub record Order : Type 0 where
  pub one : refusal_of (state_of 6 W zeros 9 0) ≡ CELLS
  pub two : refusal_of (state_of EMPTY W zeros 9 0) ≡ PLAYER
  pub three : refusal_of (state_of EMPTY 1 zeros 9 0) ≡ TOO_MANY
  pub four : refusal_of (state_of EMPTY 1 zeros 0 0) ≡ NUMBERS
  pub none : refusal_of (state_of EMPTY 1 zeros 0 1) ≡ NONE

pub order : Order
unfolding refusal_of cells_ok creatures_fault fault_in first_fault numbers_ok empty_at
order = record { one = refl; two = refl; three = refl; four = refl; none = refl }

-- eight creatures, and the same with one thing wrong
pub record Nearest : Type 0 where
  pub right : creatures_ok (state_of EMPTY 1 (eight 8) 8 1) ≡ true
  pub ninth : creatures_ok (state_of EMPTY 1 (eight 8) 9 1) ≡ false
  pub together : creatures_ok (state_of EMPTY 1 (eight 7) 8 1) ≡ false
  pub past_count : creatures_ok (state_of EMPTY 1 (eight 8) 7 1) ≡ false

pub nearest : Nearest
unfolding creatures_ok empty_at
nearest = record { right = refl; ninth = refl; together = refl; past_count = refl }

-- three slots, and five that hold zeros
abbrev slots : Enemy → Enemy → Enemy → List Enemy
slots a b c = a ∷ b ∷ c ∷ replicate 5 blank_slot

-- an empty map but for a wall at (3, 1), the player elsewhere
abbrev walled : List Enemy → ℕ → Mine
walled es n = with_cell (state_of EMPTY 1 es n 1) 3 1 WALL

abbrev rubbish : Enemy
rubbish = facing 64 64 64

-- each cause alone; each beside the next in the order, in one creature and in two; the place
pub record Causes : Type 0 where
  pub right : creatures_fault (walled (slots (creature 5) (facing 5 2 3) (creature 6)) 3) ≡ NONE
  pub nine : creatures_fault (walled zeros 9) ≡ TOO_MANY
  pub nine_rubbish : creatures_fault (walled (replicate MAX_ENEMIES rubbish) 9) ≡ TOO_MANY
  pub many_rubbish : creatures_fault (walled (replicate MAX_ENEMIES rubbish) 255) ≡ TOO_MANY
  pub across : creatures_fault (walled (slots (creature 5) (creature W) (creature 6)) 3) ≡ OFF_GRID 1
  pub down : creatures_fault (walled (slots (creature 5) (facing 5 H 0) (creature 6)) 3) ≡ OFF_GRID 1
  pub off_and_turned : creatures_fault (walled (slots (creature 5) rubbish (creature 6)) 3) ≡ OFF_GRID 1
  pub wall : creatures_fault (walled (slots (creature 5) (creature 3) (creature 6)) 3) ≡ WRONG_CELL 1
  pub wall_and_turned : creatures_fault (walled (slots (creature 5) (facing 3 1 4) (creature 6)) 3) ≡ WRONG_CELL 1
  pub wall_before_off : creatures_fault (walled (slots (creature 3) (creature W) (creature 6)) 3) ≡ WRONG_CELL 0
  pub turned : creatures_fault (walled (slots (creature 5) (facing 6 1 4) (creature 7)) 3) ≡ HEADING 1
  pub turned_and_shared : creatures_fault (walled (slots (creature 5) (facing 5 1 4) (creature 7)) 3) ≡ HEADING 1
  pub turned_before_wall : creatures_fault (walled (slots (creature 5) (facing 6 1 4) (creature 3)) 3) ≡ HEADING 1
  pub pair : creatures_fault (walled (slots (creature 5) (creature 6) (creature 5)) 3) ≡ SHARED_CELL 2
  pub pair_around_turned : creatures_fault (walled (slots (creature 5) (facing 6 1 4) (creature 5)) 3) ≡ HEADING 1
  pub pair_before_turned : creatures_fault (walled (slots (creature 5) (creature 5) (facing 6 1 4)) 3) ≡ SHARED_CELL 1
  pub pair_and_slot : creatures_fault (walled (slots (creature 5) (creature 5) rubbish) 2) ≡ SHARED_CELL 1
  pub slot : creatures_fault (walled (slots (creature 5) blank_slot (facing 0 0 1)) 1) ≡ SPARE_SLOT 2
  pub two_slots : creatures_fault (walled (slots (creature 5) rubbish rubbish) 1) ≡ SPARE_SLOT 1

pub causes : Causes
unfolding creatures_fault fault_in first_fault creature_fault empty_at
causes = record {
  right = refl;
  nine = refl;
  nine_rubbish = refl;
  many_rubbish = refl;
  across = refl;
  down = refl;
  off_and_turned = refl;
  wall = refl;
  wall_and_turned = refl;
  wall_before_off = refl;
  turned = refl;
  turned_and_shared = refl;
  turned_before_wall = refl;
  pair = refl;
  pair_around_turned = refl;
  pair_before_turned = refl;
  pair_and_slot = refl;
  slot = refl;
  two_slots = refl;
}
