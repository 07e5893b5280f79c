-- A closing on nine cells: regions of two, two and three cells, with claimed ground between. Computed; assumes nothing.
use mathlib.Core.List.{List, [], ◌∷◌, map, zip_with}
use mathlib.Core.Path.{◌≡◌, refl}
use Prim.Native.Nat.{ℕ}
use lib.IntN.{pos}
use Rattle.laws.specs.Lists.{tally}
use Rattle.cutter_ground.specs.Cells.{CN, CB_BLACK, CB_FILLED, CB_TRAIL}
use Rattle.cutter_ground.specs.declared.Mover.{Mover}
use Rattle.cutter_closing.specs.Counted.{MAX_COMP, roots_from, counted}
use Rattle.cutter_closing.specs.Closing.{claim_line, best, kept, claim, remaining}

-- a creature in a column of the first row
abbrev at : ℕ → Mover
at x = record { x = x; y = 0; vx = pos 1; vy = pos 1 }

abbrev cells : List ℕ
cells = CB_BLACK ∷ CB_BLACK ∷ CB_FILLED ∷ CB_BLACK ∷ CB_BLACK ∷ CB_FILLED ∷ CB_BLACK ∷ CB_BLACK ∷ CB_BLACK ∷ []

-- each black cell's region: its earliest cell
abbrev right : List ℕ
right = 0 ∷ 0 ∷ CN ∷ 3 ∷ 3 ∷ CN ∷ 6 ∷ 6 ∷ 6 ∷ []

abbrev kept_of : List ℕ → ℕ
kept_of xs = kept MAX_COMP right (map at xs)

pub record Closings : Type 0 where
  pub line : claim_line (CB_TRAIL ∷ CB_BLACK ∷ CB_FILLED ∷ []) ≡ CB_FILLED ∷ CB_BLACK ∷ CB_FILLED ∷ []
  pub most_creatures : kept_of (0 ∷ 1 ∷ 6 ∷ []) ≡ 0
  pub then_cells : kept_of (0 ∷ 6 ∷ []) ≡ 6
  pub then_earliest : kept_of (0 ∷ 3 ∷ []) ≡ 0
  pub taken : claim (counted MAX_COMP right) 6 cells right ≡ CB_FILLED ∷ CB_FILLED ∷ CB_FILLED ∷ CB_FILLED ∷ CB_FILLED ∷ CB_FILLED ∷ CB_BLACK ∷ CB_BLACK ∷ CB_BLACK ∷ []
  pub remain : remaining right 6 (map at (7 ∷ 0 ∷ 6 ∷ [])) ≡ map at (7 ∷ 6 ∷ [])
  -- of one region that is counted: the others stay black, and their creatures go
  pub stay_black : claim (counted 1 right) 0 cells right ≡ cells
  pub go_too : remaining right 0 (map at (3 ∷ 1 ∷ 6 ∷ [])) ≡ map at (1 ∷ [])

pub closings : Closings
unfolding best claim remaining roots_from tally zip_with
closings = record { line = refl; most_creatures = refl; then_cells = refl; then_earliest = refl; taken = refl; remain = refl; stay_black = refl; go_too = refl }
