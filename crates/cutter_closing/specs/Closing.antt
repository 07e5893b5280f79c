-- Closing a cut, as document 01 has it: a function of the limit, the grid, its right labelling L and the creatures.
use Rattle.std.specs.Prelude.{Bool, cond, not, ◌&&◌, ◌||◌, ℕ, eqb, ltb, length, get_or}
use mathlib.Core.List.{List, [], ◌∷◌, map, zip_with}
use Rattle.laws.specs.Lists.{any, count, filter}
use Rattle.cutter_ground.specs.Cells.{CN, CB_FILLED, CB_TRAIL}
use Rattle.cutter_ground.specs.declared.Mover.{Mover}
use Rattle.cutter_joined.proofs.Labels.{labels}
use Rattle.cutter_closing.specs.Counted.{counted, cells_in}
use Rattle.cutter_closing.specs.declared.Cut.{Cut}
use Rattle.cutter_ground.specs.Movers.{place_of, slots}

-- line becomes claimed
abbrev pub line_claimed : ℕ → ℕ
line_claimed x = cond (eqb x CB_TRAIL) CB_FILLED x

abbrev pub claim_line : List ℕ → List ℕ
claim_line g = map line_claimed g

-- the region in which a creature stands
abbrev pub region_of : List ℕ → Mover → ℕ
region_of L m = get_or L (place_of m) CN

abbrev pub creatures_in : List ℕ → List Mover → ℕ → ℕ
creatures_in L es r = count (λ m. eqb (region_of L m) r) es

-- most creatures, then most cells
abbrev pub beats : List ℕ → List Mover → ℕ → ℕ → Bool
beats L es a b = ltb (creatures_in L es b) (creatures_in L es a) || eqb (creatures_in L es a) (creatures_in L es b) && ltb (cells_in L b) (cells_in L a)

-- then earliest: a later region comes before w only where it beats it
unfoldable pub best : List ℕ → List Mover → ℕ → List ℕ → ℕ
best L es w [] = w
best L es w (r ∷ rs) = best L es (cond (beats L es r w) r w) rs

-- the region that is kept of those that are counted; CN where there is none
abbrev pub kept_of : List ℕ → List Mover → List ℕ → ℕ
kept_of L es [] = CN
kept_of L es (r ∷ rs) = best L es r rs

abbrev pub kept : ℕ → List ℕ → List Mover → ℕ
kept limit L es = kept_of L es (counted limit L)

-- a region that is counted and not kept is taken
abbrev pub is_taken : List ℕ → ℕ → ℕ → Bool
is_taken rs w r = any (eqb r) rs && not (eqb r w)

-- the regions that are taken are claimed; regions that are not counted stay black
unfoldable pub claim : List ℕ → ℕ → List ℕ → List ℕ → List ℕ
claim rs w g L = zip_with (λ x r. cond (is_taken rs w r) CB_FILLED x) g L

-- only creatures in the kept region remain, in order
unfoldable pub remaining : List ℕ → ℕ → List Mover → List Mover
remaining L w es = filter (λ m. eqb (region_of L m) w) es

abbrev pub herd : List ℕ → List Mover → Cut
herd g es = record { grid = g; enemies = slots es; count = length es }

abbrev pub closed : ℕ → List ℕ → List ℕ → List Mover → Cut
closed limit g L es = herd (claim (counted limit L) (kept limit L es) g L) (remaining L (kept limit L es) es)

-- the whole closing of the grid g with the creatures es
unfoldable pub close_cut : ℕ → List ℕ → List Mover → Cut
close_cut limit g es = closed limit (claim_line g) (labels (claim_line g)).0 es
