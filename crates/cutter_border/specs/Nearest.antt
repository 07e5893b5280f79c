-- The nearest cell beside black: where the player goes to stand on the border.
use Rattle.std.specs.Prelude.{List, ◌≡◌, ℕ, ◌≤◌}
use Rattle.cutter_border.specs.Walks.{Beside, Spelling, steps, Earlier, Walk}

-- the walk p from a to b, beside black: of all walks to cells beside black none is shorter, and none is spelt earlier
pub record First (g : List ℕ) (a : ℕ) (p : Spelling) (b : ℕ) : Type 0 where
  pub walk : Walk g a p b
  pub beside : Beside g b
  pub shortest : (q : Spelling) (c : ℕ) → Walk g a q c → Beside g c → steps p ≤ steps q
  pub earliest : (q : Spelling) (c : ℕ) → Walk g a q c → Beside g c → Earlier q p → ⊥

-- no cell beside black can be reached
abbrev pub Unreached : List ℕ → ℕ → Type 0
Unreached g a = (q : Spelling) (c : ℕ) → Walk g a q c → Beside g c → ⊥

-- from a the player goes to b
pub data Nearest (g : List ℕ) (a b : ℕ) : Type 0 where
  goes : (p : Spelling) → First g a p b → Nearest g a b
  stays : Unreached g a → b ≡ a → Nearest g a b
