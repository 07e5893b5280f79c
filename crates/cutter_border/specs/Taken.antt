-- The cells that the walk to the border takes: each once, up to and including the one chosen, or all that are reached.
use Rattle.std.specs.Prelude.{Bool, true, not, ◌&&◌, List, [], ◌∷◌, ◌++◌, ◌⊎◌, ◌≡◌, ℕ, ◌≤◌, ◌<◌, eqb, length}
use Rattle.laws.specs.Lists.{any}
use Rattle.cutter_ground.specs.Cells.{CN}
use Rattle.cutter_border.specs.Walks.{claimed_cell, Beside, Spelling, steps, Earlier, Walk}
use Rattle.cutter_border.specs.Nearest.{First, Unreached}

-- c is one of the cells
abbrev pub among : ℕ → List ℕ → Bool
among c cells = any (eqb c) cells

-- no cell stands there twice
abbrev pub distinct : List ℕ → Bool
distinct [] = true
distinct (c ∷ cells) = not (among c cells) && distinct cells

-- the cells of which P holds, each once
pub record Each (P : ℕ → Type 0) (cells : List ℕ) : Type 0 where
  pub theirs : (c : ℕ) → among c cells ≡ true → P c
  pub all : (c : ℕ) → P c → among c cells ≡ true
  pub once : distinct cells ≡ true

-- the walk q comes no later than p: it has fewer steps, or as many and p is not spelt earlier
abbrev pub NoLater : Spelling → Spelling → Type 0
NoLater q p = (steps q < steps p) ⊎ ((steps q ≡ steps p) × (Earlier p q → ⊥))

-- from a the walk takes these cells: none beside black already; up to the one chosen, which is the last; all reached where none is chosen
pub data Takes (g : List ℕ) (a : ℕ) (cells : List ℕ) : Type 0 where
  none : Beside g a → cells ≡ [] → Takes g a cells
  chosen : (p : Spelling) (b : ℕ) (others : List ℕ) → (Beside g a → ⊥) → First g a p b → cells ≡ others ++ b ∷ []
      → Each (λ c. (q : Spelling) × Walk g a q c × NoLater q p) cells → Takes g a cells
  reached : Unreached g a → Each (λ c. (q : Spelling) × Walk g a q c) cells → Takes g a cells

pub record WalkCost : Type 0 where
  -- from a claimed cell each is claimed
  pub claimed : (g : List ℕ) (a : ℕ) (cells : List ℕ) → claimed_cell g a ≡ true → Takes g a cells → (c : ℕ) → among c cells ≡ true → claimed_cell g c ≡ true
  -- each once, so they are at most 2,048
  pub most : (g : List ℕ) (a : ℕ) (cells : List ℕ) → a < CN → Takes g a cells → length cells ≤ CN
  -- and how many they are is one number
  pub only : (g : List ℕ) (a : ℕ) (cells cells' : List ℕ) → a < CN → Takes g a cells → Takes g a cells' → length cells ≡ length cells'
