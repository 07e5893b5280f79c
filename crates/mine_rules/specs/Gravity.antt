-- Block Mine: what a gravity tick does.
use Rattle.std.specs.Prelude.{Bool, true, false, cond, ◌&&◌, ◌||◌, not, List, ℕ, ◌+◌, ◌-◌, leb, ltb, eqb, get_or, set, Option, Some, None}
use Rattle.laws.specs.Lists.{across, down_to}
use Rattle.found.specs.declared.Found.{Found}
use Rattle.mine_state.specs.declared.Mine.{Mine}
use Rattle.mine_state.specs.declared.Enemy.{Enemy}
use Rattle.mine_state.specs.State.{W, H, EMPTY, is_coin, is_boulder, place, code_at, marked, player_at, first_at, free_at, blank_slot}
use Rattle.mine_state.specs.Change.{with_grid, with_marks, with_cell, with_creatures, with_coins, killed}

-- a boulder or coin
abbrev pub is_object : ℕ → Bool
is_object t = is_boulder t || is_coin t

-- a fall or roll from (x, y) to (nx, ny) sets the mark at the new cell and clears the old
unfoldable pub carried : Mine → ℕ → ℕ → ℕ → ℕ → Mine
carried m x y nx ny =
    with_marks
    (with_grid m (set (set m.grid (place nx ny) (code_at m x y)) (place x y) EMPTY))
    (set (set m.falling (place nx ny) true) (place x y) false)

-- the mark clears
unfoldable pub rested : Mine → ℕ → ℕ → Mine
rested m x y = with_marks m (set m.falling (place x y) false)

-- the creature i goes (the last of the list takes its place); the slot past the count holds zeros
unfoldable pub without : Mine → ℕ → Mine
without m i =
    let last : ℕ = m.count - 1 in
    let filled : List Enemy = set m.enemies i (get_or m.enemies last blank_slot) in
    with_creatures m (set filled last blank_slot) last

-- a coin is collected and vanishes
abbrev pub coin_collected : Mine → ℕ → ℕ → Mine
coin_collected m x y = with_coins (with_cell m x y EMPTY) (m.coins + 1)

-- player below: if marked, a coin is collected and vanishes, a boulder sets dead; the mark clears
unfoldable pub over_player : Mine → ℕ → ℕ → Mine
over_player m x y =
    cond (not (marked m x y)) (rested m x y)
    (cond (is_coin (code_at m x y)) (rested (coin_collected m x y) x y)
    (rested (killed m) x y))

-- else a creature below: if marked, the creature goes and the object falls; if not, the mark stays clear
unfoldable pub over_creature : Mine → ℕ → ℕ → ℕ → Mine
over_creature m x y i = cond (marked m x y) (carried (without m i) x y x (y + 1)) (rested m x y)

-- else it falls
abbrev pub over_found : Mine → ℕ → ℕ → Option Found → Mine
over_found m x y (Some f) = over_creature m x y f.index
over_found m x y None = carried m x y x (y + 1)

-- over empty
unfoldable pub over_empty : Mine → ℕ → ℕ → Mine
over_empty m x y = cond (player_at m x (y + 1)) (over_player m x y) (over_found m x y (first_at m x (y + 1)))

-- the side cell and the cell under that are both free
abbrev pub open_side : Mine → ℕ → ℕ → Bool
open_side m x y = free_at m x y && free_at m x (y + 1)

-- it rolls left, else right
unfoldable pub rolled : Mine → ℕ → ℕ → Mine
rolled m x y =
    cond (ltb 0 x && open_side m (x - 1) y) (carried m x y (x - 1) y)
    (cond (open_side m (x + 1) y) (carried m x y (x + 1) y)
    m)

-- over anything else the mark clears; over boulder or coin it rolls
unfoldable pub over_other : Mine → ℕ → ℕ → Mine
over_other m x y = cond (is_object (code_at m x (y + 1))) (rolled (rested m x y) x y) (rested m x y)

-- one cell, as it is when reached; a boulder or coin in the last row loses its mark
unfoldable pub cell_fall : Mine → ℕ → ℕ → Mine
cell_fall m x y =
    cond (not (is_object (code_at m x y))) m
    (cond (leb H (y + 1)) (rested m x y)
    (cond (eqb (code_at m x (y + 1)) EMPTY) (over_empty m x y)
    (over_other m x y)))

-- columns left to right
unfoldable pub row_fall : Mine → ℕ → Mine
row_fall m y = across (λ (s : Mine) (x : ℕ). cell_fall s x y) W 0 m

-- rows from the bottom up
unfoldable pub gravity_of : Mine → Mine
gravity_of m = down_to row_fall H m
