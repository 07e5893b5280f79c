-- The 64 by 32 cells of Block Cutter, numbered row by row, and their neighbours.
use Rattle.std.specs.Prelude.{Bool, cond, ◌&&◌, List, [], ◌∷◌, ℕ, ◌+◌, ◌-◌, ◌*◌, ◌%◌, eqb, ltb, get_or}
use Rattle.laws.specs.Lists.{any, tally}

abbrev pub CW : ℕ
CW = 64

abbrev pub CH : ℕ
CH = 32

abbrev pub CN : ℕ
CN = 2048

-- the cells inside the ring, 1,860, and those of the ring, 188
abbrev pub INNER : ℕ
INNER = (CW - 2) * (CH - 2)

abbrev pub RING : ℕ
RING = CW * CH - INNER

-- black, claimed, line
abbrev pub CB_BLACK : ℕ
CB_BLACK = 0

abbrev pub CB_FILLED : ℕ
CB_FILLED = 1

abbrev pub CB_TRAIL : ℕ
CB_TRAIL = 2

-- the place of the cell (x, y)
abbrev pub place : ℕ → ℕ → ℕ
place x y = y * CW + x

abbrev pub on_grid : ℕ → ℕ → Bool
on_grid x y = ltb x CW && ltb y CH

-- what a cell of the grid holds; off the grid counts as claimed
abbrev pub cell_at : List ℕ → ℕ → ℕ
cell_at g c = get_or g c CB_FILLED

abbrev pub black_at : List ℕ → ℕ → Bool
black_at g c = eqb (cell_at g c) CB_BLACK

abbrev pub claimed_at : List ℕ → ℕ → Bool
claimed_at g c = eqb (cell_at g c) CB_FILLED

abbrev pub line_at : List ℕ → ℕ → Bool
line_at g c = eqb (cell_at g c) CB_TRAIL

-- how many cells are black, claimed, line
abbrev pub black_count : List ℕ → ℕ
black_count g = tally CB_BLACK g

abbrev pub claimed_count : List ℕ → ℕ
claimed_count g = tally CB_FILLED g

abbrev pub line_count : List ℕ → ℕ
line_count g = tally CB_TRAIL g

-- the four neighbours of a cell, CN where there is none
abbrev pub left_of : ℕ → ℕ
left_of c = cond (ltb 0 (c % CW)) (c - 1) CN

abbrev pub right_of : ℕ → ℕ
right_of c = cond (ltb (c % CW) (CW - 1)) (c + 1) CN

abbrev pub up_of : ℕ → ℕ
up_of c = cond (ltb c CW) CN (c - CW)

abbrev pub down_of : ℕ → ℕ
down_of c = cond (ltb c (CN - CW)) (c + CW) CN

-- black among the eight neighbours (left and right of CN are off the grid, too)
abbrev pub on_border : List ℕ → ℕ → Bool
on_border g c =
    any (black_at g)
    (left_of c ∷ right_of c ∷ up_of c ∷ down_of c ∷ left_of (up_of c) ∷ right_of (up_of c) ∷ left_of (down_of c) ∷ right_of (down_of c) ∷ [])
