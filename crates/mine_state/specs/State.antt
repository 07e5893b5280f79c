-- Block Mine: what a state holds, and who stands where.
use Rattle.std.specs.Prelude.{Bool, false, ◌&&◌, not, List, ℕ, ◌+◌, ◌*◌, leb, ltb, eqb, get_or, take, Option}
use Rattle.laws.specs.Lists.{count}
use Rattle.found.specs.First.{first, nobody}
use Rattle.found.specs.declared.Found.{Found}
use Rattle.mine_state.specs.declared.Mine.{Mine}
use Rattle.mine_state.specs.declared.Enemy.{Enemy}

-- 24 by 14 cells
abbrev pub W : ℕ
W = 24

abbrev pub H : ℕ
H = 14

abbrev pub AREA : ℕ
AREA = 336

abbrev pub MAX_ENEMIES : ℕ
MAX_ENEMIES = 8

-- codes 0 to 5: empty, dirt, wall, boulder, coin, exit
abbrev pub EMPTY : ℕ
EMPTY = 0

abbrev pub DIRT : ℕ
DIRT = 1

abbrev pub WALL : ℕ
WALL = 2

abbrev pub BOULDER : ℕ
BOULDER = 3

abbrev pub COIN : ℕ
COIN = 4

abbrev pub EXIT : ℕ
EXIT = 5

abbrev pub is_code : ℕ → Bool
is_code t = leb t EXIT

abbrev pub is_coin : ℕ → Bool
is_coin t = eqb t COIN

abbrev pub is_boulder : ℕ → Bool
is_boulder t = eqb t BOULDER

-- the place of the cell (x, y): cells are numbered row by row
abbrev pub place : ℕ → ℕ → ℕ
place x y = y * W + x

abbrev pub on_grid : ℕ → ℕ → Bool
on_grid x y = ltb x W && ltb y H

-- the code at (x, y) of a grid, and of a state
abbrev pub code_in : List ℕ → ℕ → ℕ → ℕ
code_in g x y = get_or g (place x y) EMPTY

abbrev pub code_at : Mine → ℕ → ℕ → ℕ
code_at m x y = code_in m.grid x y

-- the falling mark at (x, y)
abbrev pub marked : Mine → ℕ → ℕ → Bool
marked m x y = get_or m.falling (place x y) false

-- (x, y) is on the grid and its cell is empty
unfoldable pub empty_at : List ℕ → ℕ → ℕ → Bool
empty_at g x y = on_grid x y && eqb (code_in g x y) EMPTY

abbrev pub player_at : Mine → ℕ → ℕ → Bool
player_at m x y = eqb m.px x && eqb m.py y

-- the creatures there are: the first `count` slots
abbrev pub creatures : Mine → List Enemy
creatures m = take m.count m.enemies

abbrev pub stands_at : ℕ → ℕ → Enemy → Bool
stands_at x y e = eqb e.x x && eqb e.y y

-- the first creature at (x, y) and how many are there, or nobody
abbrev pub first_at : Mine → ℕ → ℕ → Option Found
first_at m x y = first (stands_at x y) (creatures m)

-- free: on the grid, empty, without player or creature
unfoldable pub free_at : Mine → ℕ → ℕ → Bool
free_at m x y = empty_at m.grid x y && not (player_at m x y) && nobody (first_at m x y)

-- coins in hand and on the map
abbrev pub purse : Mine → ℕ
purse m = m.coins + count is_coin m.grid

abbrev pub boulders : Mine → ℕ
boulders m = count is_boulder m.grid

-- a slot that holds zeros
abbrev pub blank_slot : Enemy
blank_slot = record { x = 0; y = 0; dir = 0 }
