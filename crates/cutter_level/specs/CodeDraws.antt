-- Block Cutter: the draws that the code is handed. No promise cites it.
use Rattle.std.specs.Prelude.{true, List, ◌≡◌, ℕ, ◌+◌, ◌*◌, ◌≤◌, length}
use Rattle.cutter_rules.specs.Level.{DRAWS_EACH, in_range, draws_ok}
use Rattle.cutter_ground.specs.Movers.{MAX_ENEMIES}

-- the four draws of a creature are there
abbrev pub FourAt : List ℕ → ℕ → Type 0
FourAt draws i = DRAWS_EACH * i + DRAWS_EACH ≤ length draws

-- the draws of the creature i
pub record DrawsAt (draws : List ℕ) (i : ℕ) : Type 0 where
  pub there : FourAt draws i
  pub fit : in_range draws i ≡ true

-- the draws of n creatures
pub record DrawsFor (draws : List ℕ) (n : ℕ) : Type 0 where
  pub few : n ≤ MAX_ENEMIES
  pub fit : draws_ok draws n ≡ true
