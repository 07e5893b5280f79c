-- How many cells the search of a closing takes: the black cells of the counted regions, just after the line is claimed.
use Rattle.std.specs.Prelude.{List, [], ◌∷◌, ◌≡◌, ℕ, ◌+◌, ◌≤◌, eqb, length}
use Rattle.laws.specs.Lists.{any, count, tally}
use Rattle.cutter_ground.specs.Cells.{CN, CB_BLACK}
use Rattle.cutter_joined.proofs.Labels.{labels}
use Rattle.cutter_closing.specs.Counted.{counted, cells_in}
use Rattle.cutter_closing.specs.Closing.{claim_line}

-- the cells of counted regions, each once, of a labelling
abbrev pub searched_in : ℕ → List ℕ → ℕ
searched_in limit L = count (λ l. any (eqb l) (counted limit L)) L

-- the same of a grid just before its closing
unfoldable pub searched_of : ℕ → List ℕ → ℕ
searched_of limit g = searched_in limit (labels (claim_line g)).0

-- the cells of the regions rs, added up
abbrev pub cells_of : List ℕ → List ℕ → ℕ
cells_of L [] = 0
cells_of L (r ∷ rs) = cells_in L r + cells_of L rs

pub record SearchCost : Type 0 where
  -- it is the sum of the counted regions' cells
  pub sum : (limit : ℕ) (L : List ℕ) → searched_in limit L ≡ cells_of L (counted limit L)
  -- and all of them are black
  pub black : (limit : ℕ) (g : List ℕ) → length g ≡ CN → searched_of limit g ≤ tally CB_BLACK g
