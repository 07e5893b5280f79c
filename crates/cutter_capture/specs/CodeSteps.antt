-- What the steps of a closing ask and do, on the search's marks. Read by their proofs; no promise cites it.
use Rattle.std.specs.Prelude.{◌≡◌, Bool, true, cond, ◌&&◌, ◌||◌, List, ℕ, ◌-◌, ◌≤◌, ◌<◌, eqb, ltb, length, get_or, take}
use Rattle.laws.specs.Lists.{all, count, filter}
use Rattle.cutter_ground.specs.Cells.{CN, CB_FILLED, CB_TRAIL}
use Rattle.cutter_ground.specs.CodeVisit.{SEEN}
use Rattle.cutter_ground.specs.declared.Mover.{Mover}
use Rattle.cutter_closing.specs.declared.Cut.{Cut}
use Rattle.cutter_closing.specs.Closing.{closed, close_cut}
use Rattle.cutter_closing.specs.Cost.{searched_in, searched_of}
use Rattle.cutter_capture.specs.declared.Closed.{Closed}
use Rattle.cutter_capture.specs.declared.Herd.{Herd}
use Rattle.cutter_capture.specs.declared.Lead.{Lead}
use Rattle.cutter_capture.specs.declared.Part.{Part}
use Rattle.cutter_ground.specs.Movers.{MAX_ENEMIES, place_of, slots}

-- a cell of the line becomes k
abbrev pub recoded : ℕ → ℕ → ℕ
recoded k x = cond (eqb x CB_TRAIL) k x

-- what marks a cell of the region to keep
abbrev pub KEPT : ℕ
KEPT = 2

-- the creatures are at most 16, each on the grid
abbrev pub inside : Mover → Bool
inside m = ltb (place_of m) CN

pub record Closable (enemies : List Mover) (count : ℕ) : Type 0 where
  pub few : count ≤ MAX_ENEMIES
  pub on_grid : all inside (take count enemies) ≡ true

-- the same of a list of creatures
pub record Placed (es : List Mover) : Type 0 where
  pub few : length es ≤ MAX_ENEMIES
  pub on_grid : all inside es ≡ true

-- the mark of a creature's cell, and how many have the mark k
abbrev pub mark_of : List ℕ → Mover → ℕ
mark_of N m = get_or N (place_of m) 0

abbrev pub having : List ℕ → List Mover → ℕ → ℕ
having N es k = count (λ m. eqb (mark_of N m) k) es

-- more creatures, or as many and more cells
abbrev pub more : ℕ → ℕ → ℕ → ℕ → Bool
more e k e' k' = ltb e' e || eqb e e' && ltb k' k

-- the best after one region more
pub record Ordered (l : Lead) (p : Part) : Type 0 where
  pub old : l.part.from ≤ l.part.to
  pub new : p.from ≤ p.to

abbrev pub leader : Lead → Part → ℕ → Lead
leader l p e = cond (more e (p.to - p.from) l.crowd (l.part.to - l.part.from)) (record { part = p; crowd = e }) l

-- the mark of those that remain
abbrev pub keep_of : ℕ → ℕ → ℕ
keep_of from to = cond (ltb from to) KEPT 0

-- a marked cell that is not to be kept becomes claimed
abbrev pub shut : ℕ → ℕ → ℕ
shut x m = cond (eqb m SEEN) CB_FILLED x

-- the creatures whose cell has the mark w, in order, and zeros behind them
pub record Retained (N : List ℕ) (w : ℕ) (es : List Mover) (r : Herd) : Type 0 where
  pub slot : r.enemies ≡ slots (filter (λ m. eqb (mark_of N m) w) es)
  pub many : r.count ≡ length (filter (λ m. eqb (mark_of N m) w) es)

-- a ground to close, with its creatures, and a region may be counted
pub record Closes (g : List ℕ) (enemies : List Mover) (count limit : ℕ) : Type 0 where
  pub cells : length g ≡ CN
  pub closable : Closable enemies count
  pub some : 0 < limit

-- the same with the list of its creatures
pub record Divided (g : List ℕ) (es : List Mover) (limit : ℕ) : Type 0 where
  pub cells : length g ≡ CN
  pub placed : Placed es
  pub some : 0 < limit

-- the ground afterwards and those that remain, together
abbrev pub cut_of : List ℕ → Closed → Cut
cut_of g r = record { grid = g; enemies = r.enemies; count = r.count }

-- the ground g closed by its labelling L, and afterwards g'
pub record ClosedBy (L : List ℕ) (limit : ℕ) (g : List ℕ) (es : List Mover) (g' : List ℕ) (r : Closed) : Type 0 where
  pub cut : cut_of g' r ≡ closed limit g L es
  pub cost : r.searched ≡ searched_in limit L

-- the whole closing, its line claimed first
pub record CutClosed (limit : ℕ) (g : List ℕ) (es : List Mover) (g' : List ℕ) (r : Closed) : Type 0 where
  pub cut : cut_of g' r ≡ close_cut limit g es
  pub cost : r.searched ≡ searched_of limit g
