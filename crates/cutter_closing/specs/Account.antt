-- The numbers of a closing, for the accounts: from the grid just before it, its regions and the creatures.
use Rattle.std.specs.Prelude.{not, List, ℕ, eqb}
use Rattle.laws.specs.Lists.{count}
use Rattle.cutter_ground.specs.declared.Mover.{Mover}
use Rattle.cutter_joined.proofs.Labels.{labels}
use Rattle.cutter_closing.specs.Counted.{counted}
use Rattle.cutter_closing.specs.Closing.{claim_line, region_of, kept, is_taken}

-- cells of the regions taken, of a labelling
abbrev pub taken_in : ℕ → List ℕ → List Mover → ℕ
taken_in limit L es = count (is_taken (counted limit L) (kept limit L es)) L

-- creatures outside the kept region, of a labelling
abbrev pub gone_in : ℕ → List ℕ → List Mover → ℕ
gone_in limit L es = count (λ m. not (eqb (region_of L m) (kept limit L es))) es

-- the same of a grid
unfoldable pub taken_of : ℕ → List ℕ → List Mover → ℕ
taken_of limit g es = taken_in limit (labels (claim_line g)).0 es

unfoldable pub gone_of : ℕ → List ℕ → List Mover → ℕ
gone_of limit g es = gone_in limit (labels (claim_line g)).0 es
