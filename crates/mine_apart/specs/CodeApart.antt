-- Creatures taken apart into places and directions, and who stands where by places. No promise of a public call cites it.
use Rattle.std.specs.Prelude.{Bool, true, ◌&&◌, not, List, [], ◌∷◌, map, ◌≡◌, ℕ, zero, suc, ◌/◌, ◌%◌, ◌<◌, ◌≤◌, eqb, length, Option}
use Rattle.found.specs.First.{first, nobody}
use Rattle.found.specs.declared.Found.{Found}
use Rattle.mine_state.specs.declared.Mine.{Mine}
use Rattle.mine_state.specs.declared.Enemy.{Enemy}
use Rattle.mine_state.specs.State.{W, AREA, MAX_ENEMIES, place, empty_at, blank_slot}
use Rattle.mine_apart.specs.declared.Parts.{Parts}
use Rattle.mine_state.specs.CodeState.{all_on_map}

abbrev pub spot_of : Enemy → ℕ
spot_of e = place e.x e.y

abbrev pub dir_of : Enemy → ℕ
dir_of e = e.dir

-- the places of the first n creatures of a list, and AREA, which is no place, for each of the rest
abbrev pub spots_from : ℕ → List Enemy → List ℕ
spots_from n [] = []
spots_from zero (e ∷ es) = AREA ∷ spots_from zero es
spots_from (suc n) (e ∷ es) = spot_of e ∷ spots_from n es

-- the first n creatures taken apart
abbrev pub parted : List Enemy → ℕ → Parts
parted es n = record { spots = spots_from n es; dirs = map dir_of es }

-- and put together again: a place tells its column and its row
abbrev pub creature : ℕ → ℕ → Enemy
creature s d = record { x = s % W; y = s / W; dir = d }

unfoldable pub joined : ℕ → List ℕ → List ℕ → List Enemy
joined n [] ds = []
joined n (s ∷ ss) [] = []
joined zero (s ∷ ss) (d ∷ ds) = blank_slot ∷ joined zero ss ds
joined (suc n) (s ∷ ss) (d ∷ ds) = creature s d ∷ joined n ss ds

-- the state m with this grid, these creatures and this player's place
abbrev pub standing : Mine → List ℕ → List Enemy → ℕ → ℕ → ℕ → Mine
standing m g es n px py = record { grid = g; falling = m.falling; px = px; py = py; enemies = es; count = n; coins = m.coins; needed = m.needed; dead = m.dead; won = m.won }

-- n creatures that can be taken apart
pub record Takes (es : List Enemy) (n : ℕ) : Type 0 where
  pub few : n ≤ MAX_ENEMIES
  pub placed : all_on_map es ≡ true

-- spots tell where the first n creatures stand
pub record Spotted (es : List Enemy) (n : ℕ) (spots : List ℕ) : Type 0 where
  pub placed : all_on_map es ≡ true
  pub them : spots ≡ spots_from n es

-- the lists have a number for each slot, and are n creatures' that are on the map
pub record Apart (n : ℕ) (spots ds : List ℕ) : Type 0 where
  pub slots : length spots ≡ MAX_ENEMIES
  pub ways : length ds ≡ MAX_ENEMIES
  pub few : n ≤ MAX_ENEMIES
  pub spotted : Spotted (joined n spots ds) n spots

abbrev pub is_spot : ℕ → ℕ → Bool
is_spot at s = eqb s at

-- the first creature at a place and how many are there, or nobody
abbrev pub first_spot : ℕ → List ℕ → Option Found
first_spot at spots = first (is_spot at) spots

-- free, by places
unfoldable pub free_spot : List ℕ → List ℕ → ℕ → ℕ → ℕ → Bool
free_spot g spots player x y = empty_at g x y && not (eqb player (place x y)) && nobody (first_spot (place x y) spots)

-- lent places, and one to ask for
pub record Asks (spots : List ℕ) (at : ℕ) : Type 0 where
  pub slots : length spots ≡ MAX_ENEMIES
  pub inside : at < AREA

-- a lent grid and lent places
pub record Lent (g spots : List ℕ) : Type 0 where
  pub cells : length g ≡ AREA
  pub slots : length spots ≡ MAX_ENEMIES

-- spots and player tell where everyone stands
pub record Stand (m : Mine) (spots : List ℕ) (player : ℕ) : Type 0 where
  pub spotted : Spotted m.enemies m.count spots
  pub home : m.px < W
  pub you : player ≡ place m.px m.py
