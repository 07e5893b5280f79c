-- Block Mine's state as C holds it: to the game's own, and from it.
use Rattle.std.specs.Prelude.{◌&&◌, map, ◌≡◌}
use Rattle.laws.specs.Lists.{all}
use Rattle.refusal.specs.Refusal.{Checked, CELLS, NUMBERS, unless, ◌then◌}
use Rattle.mine_state.specs.declared.Mine.{Mine}
use Rattle.mine_state.specs.WellFormed.{cells_ok, player_ok, creatures_fault, numbers_ok, checked, refusal_of}
use Rattle.host_state.specs.declared.mine_bytes.HostMine.{HostMine}
use Rattle.host_state.specs.Flags.{is_flag, flag_of, byte_of}

-- the game's state of the host's
unfoldable pub game_of : HostMine → Mine
game_of h =
    record {
      grid = h.grid;
      falling = map flag_of h.falling;
      px = h.px;
      py = h.py;
      enemies = h.enemies;
      count = h.count;
      coins = h.coins;
      needed = h.needed;
      dead = flag_of h.dead;
      won = flag_of h.won;
    }

-- the host's state of the game's
unfoldable pub host_of : Mine → HostMine
host_of m =
    record {
      grid = m.grid;
      falling = map byte_of m.falling;
      px = m.px;
      py = m.py;
      enemies = m.enemies;
      count = m.count;
      coins = m.coins;
      needed = m.needed;
      dead = byte_of m.dead;
      won = byte_of m.won;
    }

-- a mark that is no flag gets 1; dead or won that is none gets 4, behind the state's own 1, 2 and creatures' fault
unfoldable pub flags_of : HostMine → Checked
flags_of h =
    unless (all is_flag h.falling) CELLS
    then unless (is_flag h.dead && is_flag h.won) (refusal_of (game_of h) then NUMBERS)

-- document 01's order with each flag in its place, and document 02's 31 to 36 in place of 3
unfoldable pub in_order : HostMine → Checked
in_order h =
    checked (all is_flag h.falling && cells_ok (game_of h)) (player_ok (game_of h)) (creatures_fault (game_of h))
    (numbers_ok (game_of h) && (is_flag h.dead && is_flag h.won))

-- what a host's state is refused for, by its flags and then by the public call, is the first that applies in that order
abbrev pub InOrder : Type 0
InOrder = (h : HostMine) → (flags_of h then refusal_of (game_of h)) ≡ in_order h
