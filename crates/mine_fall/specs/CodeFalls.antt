-- What the functions over the lent grid, marks and places tell, for `gravity_on` to put together. No promise cites it.
use Rattle.std.specs.Prelude.{Bool, false, ◌&&◌, ◌||◌, List, ◌≡◌, ℕ, ◌+◌, ◌<◌, eqb, leb, length, get_or}
use Rattle.mine_state.specs.declared.Mine.{Mine}
use Rattle.mine_state.specs.State.{H, AREA, MAX_ENEMIES, EMPTY, place, code_in}
use Rattle.mine_apart.specs.CodeApart.{free_spot, Stand}
use Rattle.mine_state.specs.Change.{with_grid, with_marks, with_coins, killed}
use Rattle.mine_fall.specs.declared.cells.Fell.{Fell}
use Rattle.mine_fall.specs.declared.cells.Fell.TheVariants.{Quiet, Collected, Crushed, Squashed}
use Rattle.mine_rules.specs.Gravity.{is_object, without}
use Rattle.mine_state.specs.CodeState.{CellOf}

-- a cell of a lent grid and its marks
pub record LentCell (g : List ℕ) (f : List Bool) (x y : ℕ) : Type 0 where
  pub cell : CellOf g x y
  pub marks : length f ≡ AREA

-- a cell and another
pub record LentCells (g : List ℕ) (f : List Bool) (x y nx ny : ℕ) : Type 0 where
  pub this : LentCell g f x y
  pub other : LentCell g f nx ny

-- a cell, and the creatures' places
pub record Reached (g : List ℕ) (f : List Bool) (spots : List ℕ) (x y : ℕ) : Type 0 where
  pub here : LentCell g f x y
  pub slots : length spots ≡ MAX_ENEMIES

-- two cells of a column are free, by places
abbrev pub open_spot : List ℕ → List ℕ → ℕ → ℕ → ℕ → ℕ → Bool
open_spot g spots player x y by = free_spot g spots player x y && free_spot g spots player x by

-- the first n cells of the row y hold no object
abbrev pub Barely : List ℕ → ℕ → ℕ → Type 0
Barely g y n = (x : ℕ) → x < n → is_object (code_in g x y) ≡ false

-- an object that can stir: in the last row, over an empty cell or an object, or marked
abbrev pub stirs : List ℕ → List Bool → ℕ → ℕ → Bool
stirs g f x y = is_object (code_in g x y) && (leb H (y + 1) || eqb (code_in g x (y + 1)) EMPTY || is_object (code_in g x (y + 1)) || get_or f (place x y) false)

-- the first n cells of the row y hold none
abbrev pub Quietly : List ℕ → List Bool → ℕ → ℕ → Type 0
Quietly g f y n = (x : ℕ) → x < n → stirs g f x y ≡ false

-- the state m with the grid g and the marks f
abbrev pub lent : Mine → List ℕ → List Bool → Mine
lent m g f = with_marks (with_grid m g) f

-- what an object did beside moving, to the rest of the state
abbrev pub happened : Fell → Mine → Mine
happened Quiet m = m
happened Collected m = with_coins m (m.coins + 1)
happened Crushed m = killed m
happened (Squashed k) m = without m k

-- a squashed creature is one of the n that there are
abbrev pub Below : Fell → ℕ → Type 0
Below Quiet n = 0 < 1
Below Collected n = 0 < 1
Below Crushed n = 0 < 1
Below (Squashed k) n = k < n

-- Whatever else a state holds: the step makes of the grid g and the marks f the grid g' and the marks f', and r beside.
abbrev pub Does : (Mine → Mine) → List ℕ → List Bool → Fell → List ℕ → List Bool → Type 0
Does step g f r g' f' = (m : Mine) → (step (lent m g f) ≡ happened r (lent m g' f')) × Below r m.count

-- The same where spots and player tell who stands where.
abbrev pub Falls : List ℕ → ℕ → (Mine → Mine) → List ℕ → List Bool → Fell → List ℕ → List Bool → Type 0
Falls spots player step g f r g' f' = (m : Mine) → Stand m spots player → (step (lent m g f) ≡ happened r (lent m g' f')) × Below r m.count
