-- The picture's parts, as the code draws them one on the other. No promise cites it.
use Rattle.std.specs.Prelude.{Bool, true, ◌&&◌, List, ◌++◌, ◌≡◌, ℕ, ◌+◌, ◌*◌, ◌/◌, ◌<◌, ◌≤◌, eqb, length, drop}
use Rattle.laws.specs.Lists.{all, table}
use Rattle.frame.specs.Frame.{PAGES, PAGE_LEN, FRAME_LEN, page_byte}
use Rattle.frame.specs.CodeDraw.{Framed}
use Rattle.cutter_ground.specs.Cells.{CW, CH, CN, cell_at, place, on_grid}
use Rattle.cutter_ground.specs.declared.Mover.{Mover}
use Rattle.cutter_state.specs.WellFormed.{MAX_LIVES}
use Rattle.cutter_picture.specs.Picture.{is_ink, ground_lit}

-- the four cells of column cx in page p, two rows of pixels each
abbrev pub cells_lit : List ℕ → ℕ → ℕ → ℕ → Bool
cells_lit g p cx j = is_ink (cell_at g (place cx (p * 4 + j / 2)))

-- column x of the cells in row cy: two pixels
abbrev pub column_lit : ℕ → ℕ → ℕ → ℕ → Bool
column_lit x₀ cy x y = eqb x₀ x && eqb cy (y / 2)

-- four cells, one below the other, in a page
pub record Four (g : List ℕ) (p cx : ℕ) : Type 0 where
  pub cells : length g ≡ CN
  pub down : p < PAGES
  pub across : cx < CW

-- a lent grid and a frame of 1,024 bytes
pub record Lent (frame g : List ℕ) : Type 0 where
  pub cells : length g ≡ CN
  pub whole : length frame ≡ FRAME_LEN

-- and a page of it
pub record Paged (frame g : List ℕ) (p : ℕ) : Type 0 where
  pub lent : Lent frame g
  pub down : p < PAGES

-- the first n bytes of a frame are the ground's
abbrev pub grounded : List ℕ → ℕ → List ℕ → List ℕ
grounded g n old = table n (page_byte (ground_lit g)) ++ drop n old

-- page p is drawn, where those before it are
pub record NextPage (g : List ℕ) (p : ℕ) (before after : List ℕ) : Type 0 where
  pub whole : length after ≡ FRAME_LEN
  pub next : (old : List ℕ) → length old ≡ FRAME_LEN → before ≡ grounded g (p * PAGE_LEN) old → after ≡ grounded g ((p + 1) * PAGE_LEN) old

-- a pixel of the panel
pub record Spot (frame : List ℕ) (x y : ℕ) : Type 0 where
  pub framed : Framed frame
  pub across : x < PAGE_LEN
  pub down : y < PAGES * 8

-- a cell of the panel
pub record Cell (frame : List ℕ) (cx cy : ℕ) : Type 0 where
  pub framed : Framed frame
  pub across : cx < CW
  pub down : cy < CH

-- a column of pixels, and a row of cells
pub record Column (frame : List ℕ) (x cy : ℕ) : Type 0 where
  pub framed : Framed frame
  pub across : x < PAGE_LEN
  pub down : cy < CH

abbrev pub on_panel : Mover → Bool
on_panel e = on_grid e.x e.y

-- creatures on the grid
pub record Peopled (frame : List ℕ) (es : List Mover) : Type 0 where
  pub framed : Framed frame
  pub each : all on_panel es ≡ true

-- so many lives
pub record Alive (frame : List ℕ) (n : ℕ) : Type 0 where
  pub framed : Framed frame
  pub few : n ≤ MAX_LIVES
