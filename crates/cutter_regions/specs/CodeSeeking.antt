-- What the search asks of its tables, and what it leaves: one region more is marked and stands on the queue. Read by proofs; no promise cites it.
use Rattle.std.specs.Prelude.{◌≡◌, List, ◌⊎◌, ℕ, ◌+◌, ◌≤◌, ◌<◌, length, get_or}
use Rattle.laws.specs.Lists.{tally}
use Rattle.cutter_ground.specs.Cells.{CN}
use Rattle.cutter_ground.specs.CodeVisit.{SEEN}
use Rattle.cutter_joined.specs.Joined.{Black, Joined}

-- s is black, no cell of its region has a mark, and the queue has room from n on for each cell without one
pub record Ready (g seen q : List ℕ) (n s : ℕ) : Type 0 where
  pub cells : length g ≡ CN
  pub len : length seen ≡ CN
  pub long : length q ≡ CN
  pub black : Black g s
  pub fresh : (c : ℕ) → Joined g s c → get_or seen c 0 ≡ 0
  pub room : n + tally 0 seen ≤ CN

-- c stands on the queue from n on, before t
abbrev pub Queued : (q : List ℕ) (n t c : ℕ) → Type 0
Queued q n t c = (k : ℕ) × (n ≤ k) × (k < t) × (get_or q k 0 ≡ c)

-- the region of s is marked now, no other cell's mark has changed, and the queue's part from n to t holds just this region
pub record Sought (g seen₀ q₀ : List ℕ) (n s : ℕ) (seen q : List ℕ) (t : ℕ) : Type 0 where
  pub len : length seen ≡ CN
  pub long : length q ≡ CN
  pub all : (c : ℕ) → Joined g s c → get_or seen c 0 ≡ SEEN
  pub only : (c : ℕ) → (get_or seen c 0 ≡ get_or seen₀ c 0) ⊎ Joined g s c
  pub front : (k : ℕ) → k < n → get_or q k 0 ≡ get_or q₀ k 0
  pub theirs : (k : ℕ) → k < t → n ≤ k → Joined g s (get_or q k 0)
  pub queued : (c : ℕ) → Joined g s c → Queued q n t c
  pub once : (i j : ℕ) → i < t → j < t → n ≤ i → n ≤ j → get_or q i 0 ≡ get_or q j 0 → i ≡ j
  pub left_over : t + tally 0 seen ≡ n + tally 0 seen₀
