-- Document 01, 'Closing': kept is the region with most creatures, then most cells, then the earliest. The same as `kept` (Closing.antt), said without a loop.
use Rattle.std.specs.Prelude.{List, [], ◌∷◌, ◌⊎◌, ◌≡◌, ℕ, ◌<◌}
use Rattle.cutter_ground.specs.declared.Mover.{Mover}
use Rattle.cutter_closing.specs.Counted.{counted, cells_in}
use Rattle.cutter_closing.specs.Closing.{creatures_in, kept}

-- more creatures, or as many and more cells
abbrev pub Above : (e k e' k' : ℕ) → Type 0
Above e k e' k' = (e' < e) ⊎ ((e ≡ e') × (k' < k))

abbrev pub In : ℕ → List ℕ → Type 0
In r [] = ⊥
In r (x ∷ xs) = (r ≡ x) ⊎ In r xs

module _ (L : List ℕ) (es : List Mover) where
  -- the region a is over the region b
  abbrev pub Over : ℕ → ℕ → Type 0
  Over a b = Above (creatures_in L es a) (cells_in L a) (creatures_in L es b) (cells_in L b)

  -- w is one of the regions rs, none of them is over it, and it is over each that begins earlier
  pub record Keeps (rs : List ℕ) (w : ℕ) : Type 0 where
    pub one : In w rs
    pub most : (r : ℕ) → In r rs → Over r w → ⊥
    pub earliest : (r : ℕ) → In r rs → r < w → Over w r

pub record Kept : Type 0 where
  -- where a region is counted, the kept one is that of those counted
  pub keeps : (limit : ℕ) (L : List ℕ) (es : List Mover) (r : ℕ) → In r (counted limit L) → Keeps L es (counted limit L) (kept limit L es)
  -- and there is no other
  pub only : (L : List ℕ) (es : List Mover) (rs : List ℕ) (w w' : ℕ) → Keeps L es rs w → Keeps L es rs w' → w ≡ w'
