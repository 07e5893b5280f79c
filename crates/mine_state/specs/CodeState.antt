-- For the code alone: what the rules' code asks of a state, and keeps.
use Rattle.std.specs.Prelude.{Bool, ◌&&◌, true, List, ◌<◌, ℕ, ◌≤◌, ◌≡◌, leb, length}
use Rattle.mine_state.specs.State.{AREA, H, W, on_grid, MAX_ENEMIES, purse}
use Rattle.mine_state.specs.declared.Enemy.{Enemy}
use Rattle.laws.specs.Lists.{all}
use Rattle.mine_state.specs.declared.Mine.{Mine}

-- a slot on the grid with a direction from 0 to 3; one that holds zeros is such
abbrev pub on_map : Enemy → Bool
on_map e = on_grid e.x e.y && leb e.dir 3

abbrev pub all_on_map : List Enemy → Bool
all_on_map es = all on_map es

-- a cell of a grid
pub record CellOf (g : List ℕ) (x y : ℕ) : Type 0 where
  pub cells : length g ≡ AREA
  pub across : x < W
  pub down : y < H

-- the part of a well-formed state that the rules' code needs, and that every single step keeps
pub record Sound (m : Mine) : Type 0 where
  pub cells : length m.grid ≡ AREA
  pub marks : length m.falling ≡ AREA
  pub slots : length m.enemies ≡ MAX_ENEMIES
  pub few : m.count ≤ MAX_ENEMIES
  pub placed : all_on_map m.enemies ≡ true
  pub home : (m.px < W) × (m.py < H)
  pub coins : purse m ≤ AREA
