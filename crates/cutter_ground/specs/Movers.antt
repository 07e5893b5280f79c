-- The creatures of Block Cutter, and the slots that hold them.
use Rattle.std.specs.Prelude.{Bool, ◌&&◌, List, ◌++◌, ℕ, ◌-◌, eqb, pos, length, replicate}
use Rattle.cutter_ground.specs.declared.Mover.{Mover}
use Rattle.cutter_ground.specs.Cells.{place}

-- at most 16 creatures
abbrev pub MAX_ENEMIES : ℕ
MAX_ENEMIES = 16

-- the place of a creature
abbrev pub place_of : Mover → ℕ
place_of m = place m.x m.y

-- a creature stands at (x, y)
abbrev pub stands_at : ℕ → ℕ → Mover → Bool
stands_at x y m = eqb m.x x && eqb m.y y

-- a slot that holds zeros
abbrev pub blank_slot : Mover
blank_slot = record { x = 0; y = 0; vx = pos 0; vy = pos 0 }

-- slots behind the creatures hold zeros
abbrev pub slots : List Mover → List Mover
slots es = es ++ replicate (MAX_ENEMIES - length es) blank_slot
