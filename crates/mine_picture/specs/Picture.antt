-- Document 01, 'The frame': which pixel of Block Mine's picture is lit.
use Rattle.std.specs.Prelude.{Bool, ◌||◌, ◌&&◌, ℕ, ◌+◌, ◌-◌, ◌/◌, ◌%◌, min, leb}
use Rattle.laws.specs.Lists.{any}
use Rattle.bits.specs.Bits.{art_bit}
use Rattle.mine_state.specs.declared.Mine.{Mine}
use Rattle.mine_state.specs.State.{W, H, code_at, creatures, stands_at, player_at}
use Rattle.mine_picture.specs.Art.{art_of, ENEMY_PAT, PLAYER_PAT}

-- a tile is 8 by 8 pixels; the window is 16 by 7 tiles, below page 0, which is blank
abbrev pub TILE : ℕ
TILE = 8

abbrev pub VIEW_W : ℕ
VIEW_W = 16

abbrev pub VIEW_H : ℕ
VIEW_H = 7

abbrev pub HUD_H : ℕ
HUD_H = 8

-- the window's first column or row: the player's less half a window, held within the grid
abbrev pub camera_of : ℕ → ℕ → ℕ → ℕ
camera_of p view total = min (p - view / 2) (total - view)

-- its left is px less 8, held within 0 to 8, its top py less 3, within 0 to 7
abbrev pub left : Mine → ℕ
left m = camera_of m.px VIEW_W W

abbrev pub top : Mine → ℕ
top m = camera_of m.py VIEW_H H

-- the open exit shows once coins reach needed
abbrev pub is_open : Mine → Bool
is_open m = leb m.needed m.coins

-- a pixel of the cell (tx, ty), gx from its left and gy from its top: its tile adds ink, then a creature, then the player
unfoldable pub cell_lit : Mine → ℕ → ℕ → ℕ → ℕ → Bool
cell_lit m tx ty gx gy =
    art_bit (art_of (code_at m tx ty) (is_open m)) gx gy
    || any (stands_at tx ty) (creatures m) && art_bit ENEMY_PAT gx gy
    || player_at m tx ty && art_bit PLAYER_PAT gx gy

-- a pixel of the panel: page 0 is blank, and below it stand the cells from (cx, cy) on
abbrev pub window : ℕ → ℕ → (ℕ → ℕ → ℕ → ℕ → Bool) → ℕ → ℕ → Bool
window cx cy lit x y = leb HUD_H y && lit (cx + x / TILE) (cy + (y - HUD_H) / TILE) (x % TILE) ((y - HUD_H) % TILE)

unfoldable pub mine_lit : Mine → ℕ → ℕ → Bool
mine_lit m = window (left m) (top m) (cell_lit m)
