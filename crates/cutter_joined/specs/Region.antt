-- A region as a set of cells, what a right labelling numbers, and that there is one of 2,048 cells.
use Rattle.std.specs.Prelude.{◌≡◌, List, ℕ, ◌≤◌, length, get_or}
use Rattle.cutter_ground.specs.Cells.{CN}
use Rattle.cutter_joined.specs.Joined.{Black, Joined, Right}

-- black cells, each joined to each by four-way steps over black cells
abbrev pub Together : List ℕ → (ℕ → Type 0) → Type 0
Together g S = (a b : ℕ) → S a → S b → Joined g a b

-- a largest such set, with a cell in it
pub record Region (g : List ℕ) (S : ℕ → Type 0) : Type 1 where
  pub cell : ℕ
  pub has : S cell
  pub together : Together g S
  pub largest : (S' : ℕ → Type 0) → Together g S' → ((c : ℕ) → S c → S' c) → (c : ℕ) → S' c → S c

-- the cells with a black cell's number are a region, of which the number is the earliest cell; and every region is the cells with one number
pub record Numbers (g L : List ℕ) : Type 1 where
  pub region : (c : ℕ) → Black g c → Region g (λ d. get_or L d CN ≡ get_or L c CN)
  pub within : (c : ℕ) → Black g c → get_or L (get_or L c CN) CN ≡ get_or L c CN
  pub earliest : (c d : ℕ) → Black g c → get_or L d CN ≡ get_or L c CN → get_or L c CN ≤ d
  pub every : (S : ℕ → Type 0) → Region g S → (r : ℕ) × (S r × (((c : ℕ) → S c → get_or L c CN ≡ r) × ((c : ℕ) → get_or L c CN ≡ r → S c)))

-- of 2,048 cells there is exactly one right labelling
abbrev pub OneLabelling : Type 0
OneLabelling = (g : List ℕ) → length g ≡ CN → (L : List ℕ) × (Right g L × ((L' : List ℕ) → Right g L' → L' ≡ L))

pub record Labelled : Type 1 where
  pub one : OneLabelling
  -- and it numbers the regions
  pub numbers : (g L : List ℕ) → length g ≡ CN → Right g L → Numbers g L
