-- Document 02 (ix), in place of 3: the first fault of the creatures and its index.
use Rattle.std.specs.Prelude.{Bool, ◌&&◌, List, [], ◌∷◌, ℕ, ◌+◌, leb, eqb, length, take, drop}
use Rattle.refusal.specs.Refusal.{Checked, NONE, TOO_MANY, SPARE_SLOT, unless, ◌then◌}

module _ {A : Type 0} where
  -- the first fault over a list whose first element has the index i; `fault` is told an element with its index
  unfoldable pub first_fault : (ℕ → A → Checked) → ℕ → List A → Checked
  first_fault fault i [] = NONE
  first_fault fault i (a ∷ l) = fault i a then first_fault fault (i + 1) l

  -- a slot that should be blank
  abbrev pub spare_fault : (A → Bool) → ℕ → A → Checked
  spare_fault blank i a = unless (blank a) (SPARE_SLOT i)

  -- there are so many slots, and n creatures are no more
  abbrev pub room_for : ℕ → List A → ℕ → Bool
  room_for most slots n = eqb (length slots) most && leb n most

  -- 31 first, then by creature, 36 last
  unfoldable pub fault_in : ℕ → (ℕ → A → Checked) → (A → Bool) → List A → ℕ → Checked
  fault_in most fault blank slots n =
      unless (room_for most slots n) TOO_MANY
      then first_fault fault 0 (take n slots)
      then first_fault (spare_fault blank) n (drop n slots)
