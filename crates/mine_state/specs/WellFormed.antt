-- Block Mine: well-formed states, and the refusal of a state that is not.
use Rattle.std.specs.Prelude.{Bool, true, ◌&&◌, not, List, [], ◌∷◌, ◌≡◌, ℕ, ◌≤◌, leb, eqb, length, take, drop}
use Rattle.laws.specs.Lists.{all, any}
use Rattle.found.specs.First.{number}
use Rattle.refusal.specs.Refusal.{Checked, CELLS, PLAYER, OFF_GRID, WRONG_CELL, HEADING, SHARED_CELL, NUMBERS, unless, ◌then◌}
use Rattle.refusal.specs.Faults.{fault_in}
use Rattle.mine_state.specs.declared.Mine.{Mine}
use Rattle.mine_state.specs.declared.Enemy.{Enemy}
use Rattle.mine_state.specs.State.{AREA, MAX_ENEMIES, is_code, on_grid, empty_at, creatures, stands_at, first_at, purse}

-- 24 by 14 cells, codes 0 to 5; a falling mark per cell, free in value
unfoldable pub cells_ok : Mine → Bool
cells_ok m = eqb (length m.grid) AREA && eqb (length m.falling) AREA && all is_code m.grid

-- player on the grid on an empty cell
abbrev pub player_ok : Mine → Bool
player_ok m = empty_at m.grid m.px m.py

-- on the grid on an empty cell, direction 0 to 3
abbrev pub creature_ok : List ℕ → Enemy → Bool
creature_ok g e = empty_at g e.x e.y && leb e.dir 3

-- no two on one cell
abbrev pub apart : List Enemy → Bool
apart [] = true
apart (e ∷ es) = not (any (stands_at e.x e.y) es) && apart es

-- a slot that holds zeros
abbrev pub is_blank : Enemy → Bool
is_blank e = eqb e.x 0 && eqb e.y 0 && eqb e.dir 0

-- at most 8 creatures, each right by itself, no two on one cell; slots past the count hold zeros
unfoldable pub creatures_ok : Mine → Bool
creatures_ok m =
    eqb (length m.enemies) MAX_ENEMIES
    && leb m.count MAX_ENEMIES
    && all (creature_ok m.grid) (creatures m)
    && apart (creatures m)
    && all is_blank (drop m.count m.enemies)

-- the same by creature, of the one in the slot i: off the grid, on a wrong cell, its direction, a cell shared with an earlier creature
unfoldable pub creature_fault : List ℕ → List Enemy → ℕ → Enemy → Checked
creature_fault g slots i e =
    unless (on_grid e.x e.y) (OFF_GRID i)
    then unless (empty_at g e.x e.y) (WRONG_CELL i)
    then unless (leb e.dir 3) (HEADING i)
    then unless (not (any (stands_at e.x e.y) (take i slots))) (SHARED_CELL i)

-- too many first, then by creature, a slot past the count last
unfoldable pub creatures_fault : Mine → Checked
creatures_fault m = fault_in MAX_ENEMIES (creature_fault m.grid m.enemies) is_blank m.enemies m.count

-- coins in hand plus coin cells at most 336; needed 1 to 336
unfoldable pub numbers_ok : Mine → Bool
numbers_ok m = leb (purse m) AREA && leb 1 m.needed && leb m.needed AREA

unfoldable pub well_formed : Mine → Bool
well_formed m = cells_ok m && player_ok m && creatures_ok m && numbers_ok m

-- checked in the order 1, 2, the creatures' fault in place of 3, 4; the first that applies is given
abbrev pub checked : Bool → Bool → Checked → Bool → Checked
checked cells player fault numbers =
    unless cells CELLS then unless player PLAYER then fault then unless numbers NUMBERS

-- the refusal that a state gets
unfoldable pub refusal_of : Mine → Checked
refusal_of m = checked (cells_ok m) (player_ok m) (creatures_fault m) (numbers_ok m)

-- what well-formedness says, part by part
pub record WellFormed (m : Mine) : Type 0 where
  pub cells : length m.grid ≡ AREA
  pub marks : length m.falling ≡ AREA
  pub codes : all is_code m.grid ≡ true
  pub player : player_ok m ≡ true
  pub slots : length m.enemies ≡ MAX_ENEMIES
  pub few : m.count ≤ MAX_ENEMIES
  pub each : all (creature_ok m.grid) (creatures m) ≡ true
  pub distinct : apart (creatures m) ≡ true
  pub rest : all is_blank (drop m.count m.enemies) ≡ true
  pub coins : purse m ≤ AREA
  pub asked : (1 ≤ m.needed) × (m.needed ≤ AREA)

-- the number at a cell of a well-formed state is never above 1
abbrev pub Alone : Type 0
Alone = (m : Mine) (x y : ℕ) → WellFormed m → number (first_at m x y) ≤ 1
