-- What gathering a region by its number asks and leaves; L are the numbers. Read by proofs; no promise cites it.
use Rattle.std.specs.Prelude.{◌≡◌, List, ℕ, ◌+◌, ◌≤◌, ◌<◌, length, get_or}
use Rattle.laws.specs.Lists.{tally}
use Rattle.cutter_ground.specs.Cells.{CN}
use Rattle.cutter_ground.specs.CodeVisit.{SEEN}
use Rattle.cutter_joined.specs.Joined.{Right}
use Rattle.cutter_regions.specs.CodeSeeking.{Ready, Queued}

-- no cell with the number s has a mark, and the queue has room from n on for each cell without one
pub record Bare (L seen q : List ℕ) (n s : ℕ) : Type 0 where
  pub nums : length L ≡ CN
  pub len : length seen ≡ CN
  pub long : length q ≡ CN
  pub inn : s < CN
  pub fresh : (c : ℕ) → get_or L c CN ≡ s → get_or seen c 0 ≡ 0
  pub room : n + tally 0 seen ≤ CN

-- the cells before e that have the number s are marked and stand on the queue from n to t
pub record Gathered (L seen₀ q₀ : List ℕ) (n s : ℕ) (seen q : List ℕ) (t e : ℕ) : Type 0 where
  pub len : length seen ≡ CN
  pub long : length q ≡ CN
  pub begun : n ≤ t
  pub front : (k : ℕ) → k < n → get_or q k 0 ≡ get_or q₀ k 0
  pub past : (c : ℕ) → c < e → get_or L c CN ≡ s → (get_or seen c 0 ≡ SEEN) × Queued q n t c
  pub other : (c : ℕ) → (get_or L c CN ≡ s → ⊥) → get_or seen c 0 ≡ get_or seen₀ c 0
  pub ahead : (c : ℕ) → e ≤ c → get_or seen c 0 ≡ get_or seen₀ c 0
  pub theirs : (k : ℕ) → k < t → n ≤ k → (get_or L (get_or q k 0) CN ≡ s) × (get_or q k 0 < e)
  pub once : (i j : ℕ) → i < t → j < t → n ≤ i → n ≤ j → get_or q i 0 ≡ get_or q j 0 → i ≡ j
  pub left_over : t + tally 0 seen ≡ n + tally 0 seen₀

-- where L has a number for each cell, they are right and the region's is s
pub record Findable (g L seen q : List ℕ) (n s : ℕ) : Type 0 where
  pub ready : Ready g seen q n s
  pub numbered : length L ≡ CN → Right g L × (get_or L s CN ≡ s)
