-- Block Cutter's state as C holds it: to the game's own, and from it.
use Rattle.std.specs.Prelude.{◌&&◌, ◌≡◌}
use Rattle.refusal.specs.Refusal.{Checked, CELLS, PLAYER, NUMBERS, unless, ◌then◌}
use Rattle.cutter_state.specs.declared.Cutter.{Cutter}
use Rattle.cutter_state.specs.WellFormed.{cells_ok, player_ok, creatures_fault, numbers_ok, refusal_of}
use Rattle.host_state.specs.declared.cutter_bytes.HostCutter.{HostCutter}
use Rattle.host_state.specs.Flags.{is_flag, flag_of, byte_of}

-- the game's state of the host's
unfoldable pub game_of : HostCutter → Cutter
game_of h =
    record {
      grid = h.grid;
      px = h.px;
      py = h.py;
      dx = h.dx;
      dy = h.dy;
      trailing = flag_of h.trailing;
      enemies = h.enemies;
      count = h.count;
      level = h.level;
      lives = h.lives;
      dead = flag_of h.dead;
      won_level = flag_of h.won_level;
    }

-- the host's state of the game's
unfoldable pub host_of : Cutter → HostCutter
host_of c =
    record {
      grid = c.grid;
      px = c.px;
      py = c.py;
      dx = c.dx;
      dy = c.dy;
      trailing = byte_of c.trailing;
      enemies = c.enemies;
      count = c.count;
      level = c.level;
      lives = c.lives;
      dead = byte_of c.dead;
      won_level = byte_of c.won_level;
    }

-- trailing that is no flag gets 1; dead or won that is none gets 4, behind the state's own 1, 2 and creatures' fault
unfoldable pub flags_of : HostCutter → Checked
flags_of h =
    unless (is_flag h.trailing) CELLS
    then unless (is_flag h.dead && is_flag h.won_level) (refusal_of (game_of h) then NUMBERS)

-- document 01's order with each flag in its place, and document 02's 31 to 36 in place of 3
unfoldable pub in_order : HostCutter → Checked
in_order h =
    unless (is_flag h.trailing && cells_ok h.grid (flag_of h.trailing)) CELLS
    then unless (player_ok (game_of h)) PLAYER
    then creatures_fault (game_of h)
    then unless (numbers_ok (game_of h) && (is_flag h.dead && is_flag h.won_level)) NUMBERS

-- what a host's state is refused for, by its flags and then by the public call, is the first that applies in that order
abbrev pub InOrder : Type 0
InOrder = (h : HostCutter) → (flags_of h then refusal_of (game_of h)) ≡ in_order h
