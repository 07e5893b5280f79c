-- The order of the checks, and the nearest wrong value of each part. Computed; assumes nothing.
use mathlib.Core.Bool.{true, false}
use mathlib.Core.List.{List, ◌∷◌, ◌++◌}
use mathlib.Core.Path.{◌≡◌, refl}
use Prim.Native.Nat.{ℕ, ◌+◌, ◌-◌}
use lib.IntN.{ℤ, pos, negsuc}
use lib.ListN.{replicate}
use Rattle.refusal.specs.Refusal.{NONE, CELLS, PLAYER, TOO_MANY, OFF_GRID, WRONG_CELL, HEADING, SPARE_SLOT, NUMBERS}
use Rattle.refusal.specs.Faults.{first_fault, fault_in}
use Rattle.cutter_ground.specs.Cells.{CW, CN, CB_BLACK, CB_FILLED, CB_TRAIL}
use Rattle.cutter_ground.specs.declared.Mover.{Mover}
use Rattle.cutter_state.specs.declared.Cutter.{Cutter}
use Rattle.cutter_state.specs.State.{holds_at, share_in}
use Rattle.cutter_state.specs.WellFormed.{rows_filled, columns_filled, cells_ok, direction_ok, player_ok, mover_ok, is_blank, creatures_ok, numbers_ok, refusal_of}
use Rattle.cutter_state.specs.WellFormed.{creature_fault, creatures_fault}
use Rattle.cutter_ground.specs.Movers.{MAX_ENEMIES, blank_slot}
use Rattle.laws.specs.Lists.{tally}

abbrev mover : ℕ → ℕ → ℤ → ℤ → Mover
mover x y vx vy = record { x = x; y = y; vx = vx; vy = vy }

-- the cells, the player in a column of row 1, the slots, so many creatures, a level, lives
abbrev state_of : List ℕ → ℕ → List Mover → ℕ → ℕ → ℕ → Cutter
state_of g x es n level lives = record
    { grid = g; px = x; py = 1; dx = pos 0; dy = pos 0; trailing = false; enemies = es; count = n; level = level; lives = lives; dead = false; won_level = false }

abbrev slots : Mover → List Mover
slots e = replicate MAX_ENEMIES e

abbrev zeros : List Mover
zeros = slots (mover 0 0 (pos 0) (pos 0))

abbrev cells : ℕ → List ℕ
cells k = replicate CN k

-- claimed but for one code at (1, 1)
abbrev but : ℕ → List ℕ
but k = replicate (CW + 1) CB_FILLED ++ (k ∷ replicate (CN - CW - 2) CB_FILLED)

-- a state wrong in each of the four ways, put right one after the other
pub record Order : Type 0 where
  pub one : refusal_of (state_of (cells CB_BLACK) CW zeros 17 0 3) ≡ CELLS
  pub two : refusal_of (state_of (cells CB_FILLED) CW zeros 17 0 3) ≡ PLAYER
  pub three : refusal_of (state_of (cells CB_FILLED) 0 zeros 17 0 3) ≡ TOO_MANY
  pub four : refusal_of (state_of (cells CB_FILLED) 0 zeros 0 0 3) ≡ NUMBERS
  pub none : refusal_of (state_of (cells CB_FILLED) 0 zeros 0 1 3) ≡ NONE

pub order : Order
unfolding refusal_of cells_ok rows_filled columns_filled player_ok creatures_fault fault_in first_fault numbers_ok is_blank holds_at
order = record { one = refl; two = refl; three = refl; four = refl; none = refl }

-- each part with one thing wrong, by one
pub record Nearest : Type 0 where
  pub hole : cells_ok (CB_FILLED ∷ CB_BLACK ∷ replicate (CN - 2) CB_FILLED) false ≡ false
  pub line_alone : cells_ok (but CB_TRAIL) false ≡ false
  pub trailing_alone : cells_ok (cells CB_FILLED) true ≡ false
  pub diagonal : direction_ok (pos 1) (pos 1) ≡ false
  pub right : mover_ok (but CB_BLACK) (mover 1 1 (pos 1) (negsuc 0)) ≡ true
  pub claimed : mover_ok (but CB_BLACK) (mover 2 1 (pos 1) (negsuc 0)) ≡ false
  pub still : mover_ok (but CB_BLACK) (mover 1 1 (pos 0) (negsuc 0)) ≡ false
  pub sixteen : creatures_ok (state_of (but CB_BLACK) 0 (slots (mover 1 1 (pos 1) (pos 1))) 16 1 3) ≡ true
  pub seventeen : creatures_ok (state_of (but CB_BLACK) 0 (slots (mover 1 1 (pos 1) (pos 1))) 17 1 3) ≡ false
  pub four_lives : numbers_ok (state_of (cells CB_FILLED) 0 zeros 0 1 4) ≡ false

pub nearest : Nearest
unfolding cells_ok rows_filled columns_filled mover_ok creatures_ok numbers_ok is_blank holds_at
nearest = record {
  hole = refl;
  line_alone = refl;
  trailing_alone = refl;
  diagonal = refl;
  right = refl;
  claimed = refl;
  still = refl;
  sixteen = refl;
  seventeen = refl;
  four_lives = refl;
}

-- three slots, and thirteen that hold zeros
abbrev three : Mover → Mover → Mover → List Mover
three a b c = a ∷ b ∷ c ∷ replicate 13 blank_slot

-- claimed but for black at (1, 1)
abbrev pit : List Mover → ℕ → Cutter
pit es n = state_of (but CB_BLACK) 0 es n 1 3

abbrev good : Mover
good = mover 1 1 (pos 1) (negsuc 0)

abbrev rubbish : Mover
rubbish = mover 255 255 (pos 7) (pos 0)

-- each cause alone; each beside the next in the order, in one creature and in two; the place
pub record Causes : Type 0 where
  pub right : creatures_fault (pit (three good good good) 3) ≡ NONE
  pub seventeen : creatures_fault (pit zeros 17) ≡ TOO_MANY
  pub seventeen_rubbish : creatures_fault (pit (slots rubbish) 17) ≡ TOO_MANY
  pub many_rubbish : creatures_fault (pit (slots rubbish) 255) ≡ TOO_MANY
  pub x64 : creatures_fault (pit (three good (mover 64 1 (pos 1) (pos 1)) good) 3) ≡ OFF_GRID 1
  pub x255 : creatures_fault (pit (three good (mover 255 1 (pos 1) (pos 1)) good) 3) ≡ OFF_GRID 1
  pub y32 : creatures_fault (pit (three good (mover 1 32 (pos 1) (pos 1)) good) 3) ≡ OFF_GRID 1
  pub off_and_still : creatures_fault (pit (three good rubbish good) 3) ≡ OFF_GRID 1
  pub claimed : creatures_fault (pit (three good (mover 2 1 (pos 1) (pos 1)) good) 3) ≡ WRONG_CELL 1
  pub claimed_and_still : creatures_fault (pit (three good (mover 2 1 (pos 0) (pos 1)) good) 3) ≡ WRONG_CELL 1
  pub claimed_before_off : creatures_fault (pit (three (mover 2 1 (pos 1) (pos 1)) rubbish good) 3) ≡ WRONG_CELL 0
  pub still_across : creatures_fault (pit (three good (mover 1 1 (pos 0) (pos 1)) good) 3) ≡ HEADING 1
  pub still_down : creatures_fault (pit (three good (mover 1 1 (pos 1) (pos 0)) good) 3) ≡ HEADING 1
  pub fast : creatures_fault (pit (three good (mover 1 1 (pos 1) (negsuc 1)) good) 3) ≡ HEADING 1
  pub still_before_claimed : creatures_fault (pit (three good (mover 1 1 (pos 0) (pos 1)) (mover 2 1 (pos 1) (pos 1))) 3) ≡ HEADING 1
  pub still_and_slot : creatures_fault (pit (three good (mover 1 1 (pos 0) (pos 1)) rubbish) 2) ≡ HEADING 1
  pub slot : creatures_fault (pit (three good blank_slot (mover 0 0 (pos 0) (pos 1))) 1) ≡ SPARE_SLOT 2
  pub two_slots : creatures_fault (pit (three good rubbish rubbish) 1) ≡ SPARE_SLOT 1

pub causes : Causes
unfolding creatures_fault fault_in first_fault creature_fault is_blank holds_at
causes = record {
  right = refl;
  seventeen = refl;
  seventeen_rubbish = refl;
  many_rubbish = refl;
  x64 = refl;
  x255 = refl;
  y32 = refl;
  off_and_still = refl;
  claimed = refl;
  claimed_and_still = refl;
  claimed_before_off = refl;
  still_across = refl;
  still_down = refl;
  fast = refl;
  still_before_claimed = refl;
  still_and_slot = refl;
  slot = refl;
  two_slots = refl;
}

-- so many cells claimed, so many line, the rest black
abbrev split : ℕ → ℕ → Cutter
split claimed line = state_of (replicate claimed CB_FILLED ++ replicate line CB_TRAIL ++ replicate (CN - claimed - line) CB_BLACK) 0 zeros 0 1 3

-- the share of a fresh level, with 19 cells of open line, on both sides of its first percent, and of all
pub record Shares : Type 0 where
  pub fresh : share_in (split 188 0) ≡ 0
  pub line : share_in (split 188 19) ≡ 0
  pub under : share_in (split 206 0) ≡ 0
  pub over : share_in (split 207 0) ≡ 1
  pub all : share_in (split CN 0) ≡ 100

pub shares : Shares
unfolding tally
shares = record { fresh = refl; line = refl; under = refl; over = refl; all = refl }
