-- Block Cutter's state in a trace, 2,157 bytes: grid 2,048, px 8, py 8, dx 1, dy 1, trailing 1, sixteen slots of x, y, vx, vy 1 each,
-- count 8, level 4, lives 4, dead 1, won_level 1, marks 4 and 4.
use Rattle.std.specs.Prelude.{List, ◌++◌, ℕ, ◌+◌, ◌*◌}
use Rattle.laws.specs.Lists.{bit, table}
use Rattle.cutter_ground.specs.Cells.{CN}
use Rattle.cutter_ground.specs.declared.Mover.{Mover}
use Rattle.cutter_state.specs.declared.Cutter.{Cutter}
use Rattle.trace_words.specs.Numbers.{byte_at, word_at, bytes_in, pair_in, signed_of, byte_of, flag_at, cells_at, flat, PLACE, MARK}
use Rattle.cutter_ground.specs.Movers.{MAX_ENEMIES}

abbrev pub CUTTER : ℕ
CUTTER = 2157

-- the bytes of a creature, and of all slots
abbrev pub MOVER : ℕ
MOVER = 4

abbrev pub SLOTS : ℕ
SLOTS = 64

-- the bytes of the player: place, direction and trailing
abbrev pub PLAYER : ℕ
PLAYER = 19

-- ---- reading

abbrev pub mover_at : ℕ → List ℕ → Mover
mover_at at l = record { x = byte_at at l; y = byte_at (at + 1) l; vx = signed_of (byte_at (at + 2) l); vy = signed_of (byte_at (at + 3) l) }

unfoldable pub movers_at : ℕ → List ℕ → List Mover
movers_at at l = table MAX_ENEMIES (λ i. mover_at (at + i * MOVER) l)

unfoldable pub cutter_of : List ℕ → Cutter
cutter_of l =
    record {
      grid = cells_at CN 0 l;
      px = word_at PLACE 2048 l;
      py = word_at PLACE 2056 l;
      dx = signed_of (byte_at 2064 l);
      dy = signed_of (byte_at 2065 l);
      trailing = flag_at 2066 l;
      enemies = movers_at 2067 l;
      count = word_at PLACE 2131 l;
      level = word_at MARK 2139 l;
      lives = word_at MARK 2143 l;
      dead = flag_at 2147 l;
      won_level = flag_at 2148 l;
    }

-- ---- writing

abbrev pub mover_bytes : Mover → List ℕ
mover_bytes e = pair_in 1 e.x e.y ++ pair_in 1 (byte_of e.vx) (byte_of e.vy)

abbrev pub player_bytes : Cutter → List ℕ
player_bytes c = pair_in PLACE c.px c.py ++ pair_in 1 (byte_of c.dx) (byte_of c.dy) ++ bytes_in 1 (bit c.trailing)

unfoldable pub cutter_bytes : Cutter → ℕ → ℕ → List ℕ
cutter_bytes c first second =
    c.grid
    ++ player_bytes c
    ++ flat mover_bytes c.enemies
    ++ bytes_in PLACE c.count
    ++ pair_in MARK c.level c.lives
    ++ pair_in 1 (bit c.dead) (bit c.won_level)
    ++ pair_in MARK first second
