-- Document 01, 'The frame': which pixel of Block Cutter's picture is lit.
use Rattle.std.specs.Prelude.{Bool, ◌||◌, ◌&&◌, not, List, ℕ, ◌+◌, ◌*◌, ◌/◌, eqb}
use Rattle.std.specs.Bool.{xor}
use Rattle.laws.specs.Lists.{any, all_below}
use Rattle.cutter_ground.specs.Cells.{CB_FILLED, CB_TRAIL, cell_at, place}
use Rattle.cutter_ground.specs.declared.Mover.{Mover}
use Rattle.cutter_state.specs.declared.Cutter.{Cutter}
use Rattle.cutter_state.specs.State.{creatures}

-- the pixel (x₀, y₀)
abbrev pub dot_lit : ℕ → ℕ → ℕ → ℕ → Bool
dot_lit x₀ y₀ x y = eqb x₀ x && eqb y₀ y

-- the 2 by 2 pixels of the cell (cx, cy)
abbrev pub cell_lit : ℕ → ℕ → ℕ → ℕ → Bool
cell_lit cx cy x y = eqb cx (x / 2) && eqb cy (y / 2)

-- claimed and line cells are 2 by 2 ink
abbrev pub is_ink : ℕ → Bool
is_ink code = eqb code CB_FILLED || eqb code CB_TRAIL

abbrev pub ground_lit : List ℕ → ℕ → ℕ → Bool
ground_lit g x y = is_ink (cell_at g (place (x / 2) (y / 2)))

-- a creature is one ink pixel at (2x,2y)
abbrev pub mover_lit : ℕ → ℕ → Mover → Bool
mover_lit x y e = dot_lit (e.x * 2) (e.y * 2) x y

-- each life i from 0 is a PAPER pixel at (2+3i,0): (x, y) is none of the first n
abbrev pub no_life : ℕ → ℕ → ℕ → Bool
no_life n x y = all_below n (λ i. not (dot_lit (2 + 3 * i) 0 x y))

-- ink the ground and the creatures, then the player's 2 by 2 pixels are inverted, then the lives cleared
unfoldable pub cut_lit : Cutter → ℕ → ℕ → Bool
cut_lit c x y =
    xor (ground_lit c.grid x y || any (mover_lit x y) (creatures c)) (cell_lit c.px c.py x y) && no_life c.lives x y
