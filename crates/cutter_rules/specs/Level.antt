-- Block Cutter: a fresh level, and the draws that it takes.
use Rattle.std.specs.Prelude.{Bool, false, ◌&&◌, List, [], ◌∷◌, ◌++◌, ℕ, zero, suc, ◌+◌, ◌-◌, ◌*◌, ◌/◌, min, eqb, ltb, ℤ, pos, negsuc, length, get_or, replicate}
use Rattle.laws.specs.Lists.{all_below, table}
use Rattle.cutter_ground.specs.Cells.{CW, CH, CB_BLACK, CB_FILLED}
use Rattle.cutter_ground.specs.declared.Mover.{Mover}
use Rattle.cutter_state.specs.declared.Cutter.{Cutter}
use Rattle.cutter_state.specs.Change.{with_grid, with_player, with_direction, with_trailing, with_creatures}
use Rattle.cutter_ground.specs.Movers.{MAX_ENEMIES, slots}

-- ---- ring claimed, rest black

-- the first and the last row
abbrev pub edge : List ℕ
edge = replicate CW CB_FILLED

-- a row between
abbrev pub between : List ℕ
between = CB_FILLED ∷ replicate (CW - 2) CB_BLACK ++ (CB_FILLED ∷ [])

-- the same row k times
abbrev pub rows : ℕ → List ℕ → List ℕ
rows zero r = []
rows (suc k) r = r ++ rows k r

unfoldable pub fresh_grid : List ℕ
fresh_grid = edge ++ rows (CH - 2) between ++ edge

-- ---- the draws

-- min(level, 16) creatures
abbrev pub creatures_of : ℕ → ℕ
creatures_of level = min level MAX_ENEMIES

-- four draws each
abbrev pub DRAWS_EACH : ℕ
DRAWS_EACH = 4

-- the draw k of the creature i
abbrev pub draw_at : List ℕ → ℕ → ℕ → ℕ
draw_at draws i k = get_or draws (DRAWS_EACH * i + k) 0

-- below 62, 30, 2, 2
unfoldable pub in_range : List ℕ → ℕ → Bool
in_range draws i =
    ltb (draw_at draws i 0) (CW - 2)
    && ltb (draw_at draws i 1) (CH - 2)
    && ltb (draw_at draws i 2) 2
    && ltb (draw_at draws i 3) 2

-- the right number of draws for n creatures, and each in range
unfoldable pub draws_ok : List ℕ → ℕ → Bool
draws_ok draws n = eqb (length draws) (DRAWS_EACH * n) && all_below n (in_range draws)

-- velocity draw 0 is -1, 1 is 1
unfoldable pub velocity : ℕ → ℤ
velocity zero = negsuc 0
velocity (suc d) = pos 1

-- place is 1 plus the draw
unfoldable pub drawn_mover : List ℕ → ℕ → Mover
drawn_mover draws i =
    record {
      x = 1 + draw_at draws i 0;
      y = 1 + draw_at draws i 1;
      vx = velocity (draw_at draws i 2);
      vy = velocity (draw_at draws i 3);
    }

-- the creatures of n draws, and zeros in the slots past them
abbrev pub drawn_enemies : List ℕ → ℕ → List Mover
drawn_enemies draws n = slots (table n (drawn_mover draws))

-- ---- the level

-- player (32,0), no direction, not trailing
unfoldable pub at_start : Cutter → Cutter
at_start c = with_trailing (with_direction (with_player c (CW / 2) 0) (pos 0) (pos 0)) false

-- a fresh level for the state's own level
unfoldable pub fresh_level : Cutter → List ℕ → Cutter
fresh_level c draws =
    with_creatures (with_grid (at_start c) fresh_grid) (drawn_enemies draws (creatures_of c.level)) (creatures_of c.level)
