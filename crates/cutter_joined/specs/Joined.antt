-- A region is a largest set of black cells joined by four-way steps.
use Rattle.std.specs.Prelude.{◌≡◌, List, ℕ, ◌+◌, ◌-◌, ◌%◌, ◌≤◌, ◌<◌, length, get_or}
use Rattle.cutter_ground.specs.Cells.{CW, CN, CB_BLACK, cell_at}

abbrev pub Black : List ℕ → ℕ → Type 0
Black g c = cell_at g c ≡ CB_BLACK

-- one four-way step from a to b, which does not leave the row sideways
pub data Next (a b : ℕ) : Type 0 where
  left : 0 < a % CW → b + 1 ≡ a → Next a b
  right : a % CW < CW - 1 → b ≡ a + 1 → Next a b
  up : b + CW ≡ a → Next a b
  down : b ≡ a + CW → Next a b

-- a and b are black, and steps over black cells lead from a to b
pub data Joined (g : List ℕ) (a : ℕ) : ℕ → Type 0 where
  here : Black g a → Joined g a a
  step : {b c : ℕ} → Joined g a b → Next b c → Black g c → Joined g a c

-- L has for each black cell the earliest cell of its region, and CN for every other cell
pub record Right (g L : List ℕ) : Type 0 where
  pub len : length L ≡ CN
  pub own : (c : ℕ) → Black g c → Joined g (get_or L c CN) c
  pub least : (c d : ℕ) → Joined g d c → get_or L c CN ≤ d
  pub other : (c : ℕ) → (Black g c → ⊥) → get_or L c CN ≡ CN
