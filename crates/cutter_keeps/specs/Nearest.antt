-- Where the player reappears after a step that closes a cut, and after a respawn, and how many cells the walk there takes.
use Rattle.std.specs.Prelude.{true, List, ◌≡◌, ℕ, ◌≤◌, ◌/◌, length}
use Rattle.cutter_ground.specs.Cells.{CW, CN, place}
use Rattle.cutter_border.specs.Walks.{claimed_cell, Beside}
use Rattle.cutter_border.specs.Nearest.{Unreached, Nearest}
use Rattle.cutter_border.specs.Taken.{among, Takes}
use Rattle.cutter_state.specs.declared.Cutter.{Cutter}
use Rattle.cutter_state.specs.State.{line_in}
use Rattle.cutter_state.specs.WellFormed.{WellFormed}
use Rattle.cutter_rules.specs.Step.{player_cell, target, stepped, respawned, closes}
use Rattle.cutter_rules.specs.Cost.{step_walked, respawn_walked}

-- from the claimed cell a, with no line on the map, the player has gone to where s has it: the nearest cell, of which there is one; a itself,
-- if a is beside black or no such cell can be reached
pub record Reappears (a : ℕ) (s : Cutter) (walked : ℕ) : Type 0 where
  pub start : claimed_cell s.grid a ≡ true
  pub clear : line_in s ≡ 0
  pub nearest : Nearest s.grid a (player_cell s)
  pub only : (b : ℕ) → Nearest s.grid a b → b ≡ player_cell s
  pub already : Beside s.grid a → player_cell s ≡ a
  pub unreached : Unreached s.grid a → player_cell s ≡ a
  -- so many cells are taken on the way, each claimed and once: at most 2,048
  pub cells : List ℕ
  pub takes : Takes s.grid a cells
  pub many : length cells ≡ walked
  pub claimed : (c : ℕ) → among c cells ≡ true → claimed_cell s.grid c ≡ true
  pub most : walked ≤ CN

-- from the cell that closes the cut, and from (32,0)
pub record NearestKept : Type 0 where
  pub closing : (c : Cutter) → WellFormed c → closes c ≡ true → Reappears (target c) (stepped c) (step_walked c)
  pub respawn : (c : Cutter) → WellFormed c → Reappears (place (CW / 2) 0) (respawned c) (respawn_walked c)
