-- P1 and P4 to P8 of document 01, and cases of its other sentences on small mines.
use Rattle.std.specs.Prelude.{true, false, [], ◌∷◌, ◌≡◌, ℕ, set, replicate}
use Rattle.mine_state.specs.declared.Mine.{Mine}
use Rattle.mine_state.specs.declared.Enemy.{Enemy}
use Rattle.mine_state.specs.State.{AREA, MAX_ENEMIES, EMPTY, WALL, BOULDER, COIN, EXIT, place, code_at, creatures, purse, boulders, blank_slot}
use Rattle.mine_state.specs.Change.{with_marks, with_player, with_cell, with_creatures, with_coins, killed, winner}
use Rattle.mine_state.specs.WellFormed.{well_formed}
use Rattle.mine_rules.specs.Load.{loaded}
use Rattle.mine_rules.specs.Move.{moved}
use Rattle.mine_rules.specs.Gravity.{gravity_of}
use Rattle.mine_rules.specs.Tick.{enemies_moved}
use Rattle.controls.specs.Keys.{UP, RIGHT, DOWN, LEFT}

-- the loaded level: player (1,1); exit (21,12); 38 coins, 17 boulders, needed 28; all marks false; creatures (20,1) and (21,9), both direction 1
pub record P1 : Type 0 where
  pub px : loaded.px ≡ 1
  pub py : loaded.py ≡ 1
  pub exit : code_at loaded 21 12 ≡ EXIT
  pub coins : purse loaded ≡ 38
  pub hand : loaded.coins ≡ 0
  pub stones : boulders loaded ≡ 17
  pub needed : loaded.needed ≡ 28
  pub marks : loaded.falling ≡ replicate AREA false
  pub them : creatures loaded ≡ record { x = 20; y = 1; dir = 1 } ∷ record { x = 21; y = 9; dir = 1 } ∷ []
  pub alive : loaded.dead ≡ false
  pub playing : loaded.won ≡ false
  pub well : well_formed loaded ≡ true

-- an empty mine without creatures, the player at (1,1)
abbrev pub bare : Mine
bare = record {
  grid = replicate AREA EMPTY;
  falling = replicate AREA false;
  px = 1;
  py = 1;
  enemies = replicate MAX_ENEMIES blank_slot;
  count = 0;
  coins = 0;
  needed = 1;
  dead = false;
  won = false;
}

-- with a mark at (x, y)
abbrev pub with_mark : Mine → ℕ → ℕ → Mine
with_mark m x y = with_marks m (set m.falling (place x y) true)

-- an object at (5,5) over the player
abbrev pub above : ℕ → Mine
above t = with_player (with_cell bare 5 5 t) 5 6

-- marked boulder over the player: dead; unmarked: nothing
pub record P4 : Type 0 where
  pub right : well_formed (above BOULDER) ≡ true
  pub marked : gravity_of (with_mark (above BOULDER) 5 5) ≡ killed (above BOULDER)
  pub unmarked : gravity_of (above BOULDER) ≡ above BOULDER

-- marked coin over the player: collected, and vanishes
pub record CoinFalls : Type 0 where
  pub right : well_formed (above COIN) ≡ true
  pub marked : gravity_of (with_mark (above COIN) 5 5) ≡ with_coins (above EMPTY) 1

-- boulder (5,5) on boulder (5,6), wall under that and at (4,5), (6,5) to (6,6) empty, wall (6,7)
abbrev pub to_right : Mine
to_right = with_cell (with_cell (with_cell (with_cell (with_cell bare 5 5 BOULDER) 5 6 BOULDER) 5 7 WALL) 4 5 WALL) 6 7 WALL

-- one tick ends at (6,6)
pub record P5 : Type 0 where
  pub right : well_formed to_right ≡ true
  pub ends : gravity_of to_right ≡ with_mark (with_cell (with_cell to_right 5 5 EMPTY) 6 6 BOULDER) 6 6

-- with (6,6) taken it stays
pub record Taken : Type 0 where
  pub right : well_formed (with_cell to_right 6 6 WALL) ≡ true
  pub stays : gravity_of (with_cell to_right 6 6 WALL) ≡ with_cell to_right 6 6 WALL

-- mirrored to the left
abbrev pub to_left : Mine
to_left = with_cell (with_cell (with_cell (with_cell (with_cell bare 5 5 BOULDER) 5 6 BOULDER) 5 7 WALL) 6 5 WALL) 4 7 WALL

-- ends at (4,5)
pub record P6 : Type 0 where
  pub right : well_formed to_left ≡ true
  pub ends : gravity_of to_left ≡ with_mark (with_cell (with_cell to_left 5 5 EMPTY) 4 5 BOULDER) 4 5

-- both sides open
abbrev pub to_both : Mine
to_both = with_cell (with_cell (with_cell (with_cell (with_cell bare 5 5 BOULDER) 5 6 BOULDER) 5 7 WALL) 4 7 WALL) 6 7 WALL

-- left first
pub record Sides : Type 0 where
  pub right : well_formed to_both ≡ true
  pub ends : gravity_of to_both ≡ with_mark (with_cell (with_cell to_both 5 5 EMPTY) 4 5 BOULDER) 4 5

-- a boulder on a wall loses its mark
abbrev pub on_wall : Mine
on_wall = with_cell (with_cell bare 5 5 BOULDER) 5 6 WALL

pub record Rest : Type 0 where
  pub right : well_formed on_wall ≡ true
  pub ends : gravity_of (with_mark on_wall 5 5) ≡ on_wall

-- a marked coin at (5,5) beside the player
abbrev pub coin_beside : Mine
coin_beside = with_mark (with_player (with_cell bare 5 5 COIN) 4 5) 5 5

-- walked into: the mark stays on the empty cell
pub record P7 : Type 0 where
  pub right : well_formed coin_beside ≡ true
  pub stays : moved coin_beside RIGHT ≡ with_mark (with_player (with_coins bare 1) 5 5) 5 5

-- a marked boulder at (5,5) beside the player
abbrev pub boulder_beside : Mine
boulder_beside = with_mark (with_player (with_cell bare 5 5 BOULDER) 4 5) 5 5

-- pushed: the mark stays where it was; upward, nothing
pub record Push : Type 0 where
  pub right : well_formed boulder_beside ≡ true
  pub stays : moved boulder_beside RIGHT ≡ with_mark (with_player (with_cell bare 6 5 BOULDER) 5 5) 5 5
  pub upward : moved (above BOULDER) UP ≡ above BOULDER

-- an exit at (5,5) beside the player, who needs one coin
abbrev pub exit_beside : ℕ → Mine
exit_beside coins = with_coins (with_player (with_cell bare 5 5 EXIT) 4 5) coins

-- won if coins reach needed, no move
pub record Exit : Type 0 where
  pub right : well_formed (exit_beside 1) ≡ true
  pub short : moved (exit_beside 0) RIGHT ≡ exit_beside 0
  pub reached : moved (exit_beside 1) RIGHT ≡ winner (exit_beside 1)

abbrev pub creature : ℕ → ℕ → ℕ → Enemy
creature x y d = record { x = x; y = y; dir = d }

-- a creature beyond the boulder: not pushed
abbrev pub creature_beyond : Mine
creature_beyond = with_creatures boulder_beside (creature 6 5 LEFT ∷ replicate 7 blank_slot) 1

pub record Beyond : Type 0 where
  pub right : well_formed creature_beyond ≡ true
  pub stays : moved creature_beyond RIGHT ≡ creature_beyond

-- a marked boulder at (5,5) over the first of three creatures
abbrev pub creature_a : Enemy
creature_a = creature 5 6 RIGHT

abbrev pub creature_b : Enemy
creature_b = creature 8 3 DOWN

abbrev pub creature_c : Enemy
creature_c = creature 9 9 LEFT

abbrev pub with_three : Mine
with_three = with_mark (with_creatures (with_cell bare 5 5 BOULDER) (creature_a ∷ creature_b ∷ creature_c ∷ replicate 5 blank_slot) 3) 5 5

-- creatures A, B, C, A squashed: C, B
pub record P8 : Type 0 where
  pub right : well_formed with_three ≡ true
  pub left : (gravity_of with_three).enemies ≡ creature_c ∷ creature_b ∷ replicate 6 blank_slot
  pub two : (gravity_of with_three).count ≡ 2

-- a wall at the left of (5,5), seen to the right; also ahead; also at the right; also behind
abbrev pub wall_left : Mine
wall_left = with_cell bare 5 4 WALL

abbrev pub wall_ahead : Mine
wall_ahead = with_cell wall_left 6 5 WALL

abbrev pub wall_right : Mine
wall_right = with_cell wall_ahead 5 6 WALL

abbrev pub wall_behind : Mine
wall_behind = with_cell wall_right 4 5 WALL

-- a creature alone in a mine
abbrev pub alone : Mine → Enemy → Mine
alone m e = with_creatures m (e ∷ replicate 7 blank_slot) 1

-- left, straight, right, back: the first that is empty; with no such cell nothing changes
pub record Turns : Type 0 where
  pub right : well_formed (alone wall_behind (creature 5 5 RIGHT)) ≡ true
  pub left : enemies_moved (alone bare (creature 5 5 RIGHT)) ≡ alone bare (creature 5 4 UP)
  pub ahead : enemies_moved (alone wall_left (creature 5 5 RIGHT)) ≡ alone wall_left (creature 6 5 RIGHT)
  pub other : enemies_moved (alone wall_ahead (creature 5 5 RIGHT)) ≡ alone wall_ahead (creature 5 6 DOWN)
  pub back : enemies_moved (alone wall_right (creature 5 5 RIGHT)) ≡ alone wall_right (creature 4 5 LEFT)
  pub stays : enemies_moved (alone wall_behind (creature 5 5 RIGHT)) ≡ alone wall_behind (creature 5 5 RIGHT)

-- the player at (1,1), and two creatures
abbrev pub with_two : Enemy → Enemy → Mine
with_two a b = with_creatures bare (a ∷ b ∷ replicate 6 blank_slot) 2

-- the first reaches the player: dead; the tick goes on
pub record Catch : Type 0 where
  pub right : well_formed (with_two (creature 1 2 RIGHT) creature_b) ≡ true
  pub both : enemies_moved (with_two (creature 1 2 RIGHT) creature_b) ≡ killed (with_two (creature 1 1 UP) (creature 9 3 RIGHT))
