-- Walks over claimed cells, how they are spelt, and the cells beside black. No queue.
use Rattle.std.specs.Prelude.{Bool, true, ◌&&◌, List, ◌≡◌, ℕ, suc, ◌<◌, eqb, ltb}
use Rattle.cutter_ground.specs.Cells.{CN, CB_FILLED, cell_at, left_of, right_of, up_of, down_of, on_border}

-- a claimed cell of the grid
unfoldable pub claimed_cell : List ℕ → ℕ → Bool
claimed_cell g c = ltb c CN && eqb (cell_at g c) CB_FILLED

-- a step
pub data Way : Type 0 where
  Left Right Up Down : Way

-- the order of the steps
abbrev pub order : Way → ℕ
order Left = 1
order Right = 2
order Up = 3
order Down = 4

-- the cell to which a step leads, CN where there is none
abbrev pub onward : Way → ℕ → ℕ
onward Left c = left_of c
onward Right c = right_of c
onward Up c = up_of c
onward Down c = down_of c

-- black is one of the cell's eight neighbours
abbrev pub Beside : List ℕ → ℕ → Type 0
Beside g c = on_border g c ≡ true

-- a walk's steps, from the first to the last
pub data Spelling : Type 0 where
  still : Spelling
  more : Spelling → Way → Spelling

abbrev pub steps : Spelling → ℕ
steps still = 0
steps (more p w) = suc (steps p)

-- of two spellings with as many steps: the one whose step comes first in the order where they first differ
pub data Earlier : Spelling → Spelling → Type 0 where
  differ : {p : Spelling} {v w : Way} → order v < order w → Earlier (more p v) (more p w)
  before : {p q : Spelling} {v w : Way} → Earlier p q → Earlier (more p v) (more q w)

-- a walk from a over claimed cells, by its spelling and its end; the empty walk ends where it starts
pub data Walk (g : List ℕ) (a : ℕ) : Spelling → ℕ → Type 0 where
  here : Walk g a still a
  step : {p : Spelling} {b : ℕ} (w : Way) → Walk g a p b → claimed_cell g (onward w b) ≡ true → Walk g a (more p w) (onward w b)
