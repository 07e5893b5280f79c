-- Block Cutter: the cells ahead, the way a velocity or a direction points; CN, which is off the grid, where there is none.
use Rattle.std.specs.Prelude.{ℕ, zero, suc, ℤ, pos, negsuc}
use Rattle.cutter_ground.specs.Cells.{left_of, right_of, up_of, down_of}

-- back where v is negative, on where it is positive
unfoldable pub along : (ℕ → ℕ) → (ℕ → ℕ) → ℤ → ℕ → ℕ
along back on (negsuc n) c = back c
along back on (pos zero) c = c
along back on (pos (suc n)) c = on c

-- the side cell
abbrev pub side_of : ℤ → ℕ → ℕ
side_of v c = along left_of right_of v c

-- the vertical cell
abbrev pub vertical_of : ℤ → ℕ → ℕ
vertical_of v c = along up_of down_of v c

-- the diagonal cell: beside the vertical one
abbrev pub diagonal_of : ℤ → ℤ → ℕ → ℕ
diagonal_of vx vy c = side_of vx (vertical_of vy c)
