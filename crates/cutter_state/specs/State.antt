-- Block Cutter: what a state holds.
use Rattle.std.specs.Prelude.{Bool, ◌&&◌, List, ℕ, ◌-◌, ◌*◌, ◌/◌, eqb, take, drop}
use Rattle.cutter_ground.specs.Cells.{cell_at, black_count, line_count, place, on_grid, claimed_count, INNER, RING}
use Rattle.cutter_ground.specs.declared.Mover.{Mover}
use Rattle.cutter_state.specs.declared.Cutter.{Cutter}

-- (x, y) is on the grid and its cell holds the code k
unfoldable pub holds_at : List ℕ → ℕ → ℕ → ℕ → Bool
holds_at g k x y = on_grid x y && eqb (cell_at g (place x y)) k

-- the creatures there are: the first `count` slots
abbrev pub creatures : Cutter → List Mover
creatures c = take c.count c.enemies

-- the slots past the count
abbrev pub spare : Cutter → List Mover
spare c = drop c.count c.enemies

-- how many cells are black, claimed, line
abbrev pub black_in : Cutter → ℕ
black_in c = black_count c.grid

abbrev pub claimed_in : Cutter → ℕ
claimed_in c = claimed_count c.grid

abbrev pub line_in : Cutter → ℕ
line_in c = line_count c.grid

-- (claimed - 188)*100/1860, rounded down: a closed line counts, an open one doesn't
abbrev pub share_of : ℕ → ℕ
share_of claimed = (claimed - RING) * 100 / INNER

abbrev pub share_in : Cutter → ℕ
share_in c = share_of (claimed_in c)
