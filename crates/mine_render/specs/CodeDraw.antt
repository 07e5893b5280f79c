-- The picture's parts, as the code draws them one on the other. No promise cites it.
use Rattle.std.specs.Prelude.{Bool, cond, ◌&&◌, List, ◌≡◌, ℕ, ◌+◌, ◌/◌, ◌%◌, ◌<◌, eqb, leb, ltb, length, get_or}
use Rattle.laws.specs.Lists.{any, table}
use Rattle.bits.specs.Bits.{number, bit_at, art_bit}
use Rattle.frame.specs.CodeDraw.{Framed}
use Rattle.mine_state.specs.declared.Enemy.{Enemy}
use Rattle.mine_state.specs.State.{AREA, DIRT, WALL, BOULDER, COIN, EXIT, code_in, stands_at}
use Rattle.mine_picture.specs.Art.{DIRT_PAT, WALL_PAT, BOULDER_PAT, COIN_PAT, EMPTY_PAT, ENEMY_PAT, exit_art, art_of}
use Rattle.mine_render.specs.declared.Tiles.{Tiles}
use Rattle.mine_picture.specs.Picture.{TILE, VIEW_W, VIEW_H}

-- the columns of a tile as page bytes
abbrev pub columns_of : List ℕ → List ℕ
columns_of pat = table TILE (λ gx. number TILE (art_bit pat gx))

-- the tiles' columns, and those of a cell's code: nothing is its own columns
abbrev pub tiles_of : Bool → Tiles
tiles_of is_open =
    record {
      dirt = columns_of DIRT_PAT;
      wall = columns_of WALL_PAT;
      boulder = columns_of BOULDER_PAT;
      coin = columns_of COIN_PAT;
      exit = columns_of (exit_art is_open);
    }

unfoldable pub columns_in : Tiles → ℕ → List ℕ
columns_in t code =
    cond (eqb code DIRT) t.dirt
    (cond (eqb code WALL) t.wall
    (cond (eqb code BOULDER) t.boulder
    (cond (eqb code COIN) t.coin
    (cond (eqb code EXIT) t.exit EMPTY_PAT))))

-- the page bytes of a tile, put in column `col` and row `row` of the window
abbrev pub stamp_lit : ℕ → ℕ → List ℕ → ℕ → ℕ → Bool
stamp_lit col row cols x y = eqb (x / TILE) col && eqb (y / TILE) (row + 1) && bit_at (get_or cols (x % TILE) 0) (y % TILE)

-- a cell's tile
abbrev pub tile_lit : List ℕ → Bool → ℕ → ℕ → ℕ → ℕ → Bool
tile_lit g is_open tx ty gx gy = art_bit (art_of (code_in g tx ty) is_open) gx gy

-- one who stands at (x, y)
abbrev pub sprite_lit : ℕ → ℕ → List ℕ → ℕ → ℕ → ℕ → ℕ → Bool
sprite_lit x y pat tx ty gx gy = eqb x tx && eqb y ty && art_bit pat gx gy

-- the creatures
abbrev pub enemies_lit : List Enemy → ℕ → ℕ → ℕ → ℕ → Bool
enemies_lit es tx ty gx gy = any (stands_at tx ty) es && art_bit ENEMY_PAT gx gy

-- a place of the window, and page bytes to put there
pub record Inside (frame : List ℕ) (col row : ℕ) (cols : List ℕ) : Type 0 where
  pub framed : Framed frame
  pub bytes : (gx : ℕ) → gx < TILE → get_or cols gx 0 < 256
  pub across : col < VIEW_W
  pub down : row < VIEW_H

-- the cell (x, y) is one of the window's, whose top-left cell is (cx, cy)
abbrev pub in_window : ℕ → ℕ → ℕ → ℕ → Bool
in_window cx cy x y = leb cx x && ltb x (cx + VIEW_W) && leb cy y && ltb y (cy + VIEW_H)

-- a frame and a whole grid
pub record Tiled (frame g : List ℕ) : Type 0 where
  pub framed : Framed frame
  pub cells : length g ≡ AREA
