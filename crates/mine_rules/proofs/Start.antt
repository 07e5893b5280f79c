-- P1 to P3: what the level holds, three steps to the right, and a first creature tick. Assumes nothing.
use mathlib.Core.Bool.{false}
use mathlib.Core.List.{◌∷◌, map}
use mathlib.Core.Path.{◌≡◌, refl, sym, ◌∙◌, ap, subst}
use lib.ListN.{replicate}
use Rattle.mine_state.specs.declared.Mine.{Mine}
use Rattle.mine_state.specs.State.{AREA, empty_at, free_at, blank_slot}
use Rattle.mine_state.specs.WellFormed.{cells_ok, creatures_ok, numbers_ok, well_formed}
use Rattle.mine_rules.specs.Ways.{next_cell}
use Rattle.mine_rules.specs.Load.{tile_of, read_at, read_from, mine_of, LEVEL, loaded}
use Rattle.mine_rules.specs.Move.{pushed, met, moved}
use Rattle.mine_rules.specs.Tick.{way_of, tick_one, enemies_moved}
use Rattle.mine_rules.specs.Cases.{P1}
use Rattle.controls.specs.Keys.{RIGHT}

pub start : P1
unfolding loaded mine_of read_from read_at well_formed cells_ok creatures_ok numbers_ok empty_at
start = record { px = refl; py = refl; exit = refl; coins = refl; hand = refl; stones = refl; needed = refl; marks = refl; them = refl; alive = refl; playing = refl; well = refl }

-- the loaded mine written out, so that what is computed of it reads nothing again
abbrev pub drawn : Mine
drawn =
    record {
      grid = map tile_of LEVEL;
      falling = replicate AREA false;
      px = 1;
      py = 1;
      enemies = record { x = 20; y = 1; dir = 1 } ∷ record { x = 21; y = 9; dir = 1 } ∷ replicate 6 blank_slot;
      count = 2;
      coins = 0;
      needed = 28;
      dead = false;
      won = false;
    }

pub loaded_drawn : loaded ≡ drawn
unfolding loaded mine_of read_from read_at
loaded_drawn = refl

-- P2: load, right three times: (4,1), 1 coin
abbrev pub right_thrice : Mine → Mine
right_thrice m = moved (moved (moved m RIGHT) RIGHT) RIGHT

abbrev pub AtFour : Mine → Type 0
AtFour m = (m.px ≡ 4) × (m.py ≡ 1) × (m.coins ≡ 1)

drawn_right : AtFour (right_thrice drawn)
unfolding moved met pushed next_cell free_at empty_at
drawn_right = (refl, refl, refl)

pub p2 : AtFour (right_thrice loaded)
p2 = subst (λ (m : Mine). AtFour (right_thrice m)) (sym loaded_drawn) drawn_right

-- P3: load, creature tick: no change
drawn_tick : enemies_moved drawn ≡ drawn
unfolding enemies_moved tick_one way_of next_cell empty_at
drawn_tick = refl

pub p3 : enemies_moved loaded ≡ loaded
p3 = ap enemies_moved loaded_drawn ∙ drawn_tick ∙ sym loaded_drawn
