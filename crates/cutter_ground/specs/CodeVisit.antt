-- What a breadth-first search does with its tables: marks (0 for a cell not yet reached) and a queue of cells. Read by the proofs of the search
-- and of the border walk; no promise cites it. The lists are numbers: their width is the code's matter.
use Rattle.std.specs.Prelude.{◌≡◌, List, ◌⊎◌, ℕ, ◌+◌, ◌≤◌, ◌<◌, length, get_or, set}
use Rattle.laws.specs.Lists.{tally}
use Rattle.cutter_ground.specs.Cells.{CN, left_of, right_of, up_of, down_of}

-- what marks a cell as reached
abbrev pub SEEN : ℕ
SEEN = 1

-- the grid's cell c holds the code k; past the grid's end stands 3, no cell's code
abbrev pub Holds : List ℕ → ℕ → ℕ → Type 0
Holds g k c = get_or g c 3 ≡ k

-- the tables are all there, k is a code, and the queue has room for each cell without a mark
pub record Room (g seen q : List ℕ) (t k : ℕ) : Type 0 where
  pub cells : length g ≡ CN
  pub marks : length seen ≡ CN
  pub queue : length q ≡ CN
  pub kind : k < 3
  pub room : t + tally 0 seen ≤ CN

-- pushed: the cell holds k and had no mark
pub record Pushed (g seen q : List ℕ) (t at k : ℕ) (seen' q' : List ℕ) (t' : ℕ) : Type 0 where
  pub holds : Holds g k at
  pub fresh : get_or seen at 0 ≡ 0
  pub marks : seen' ≡ set seen at SEEN
  pub queue : q' ≡ set q t at
  pub tail : t' ≡ t + 1

-- passed over: nothing changes, since the cell does not hold k or has a mark
pub record Passed (g seen q : List ℕ) (t at k : ℕ) (seen' q' : List ℕ) (t' : ℕ) : Type 0 where
  pub why : Holds g k at → get_or seen at 0 ≡ 0 → ⊥
  pub marks : seen' ≡ seen
  pub queue : q' ≡ q
  pub tail : t' ≡ t

abbrev pub Visited : (g seen q : List ℕ) (t at k : ℕ) (seen' q' : List ℕ) (t' : ℕ) → Type 0
Visited g seen q t at k seen' q' t' = Pushed g seen q t at k seen' q' t' ⊎ Passed g seen q t at k seen' q' t'

-- the visits round a cell: left, right, up, down
pub record Around (g seen q : List ℕ) (t at k : ℕ) (seen' q' : List ℕ) (t' : ℕ) : Type 0 where
  pub seen₁ : List ℕ
  pub seen₂ : List ℕ
  pub seen₃ : List ℕ
  pub q₁ : List ℕ
  pub q₂ : List ℕ
  pub q₃ : List ℕ
  pub t₁ : ℕ
  pub t₂ : ℕ
  pub t₃ : ℕ
  pub first : Visited g seen q t (left_of at) k seen₁ q₁ t₁
  pub second : Visited g seen₁ q₁ t₁ (right_of at) k seen₂ q₂ t₂
  pub third : Visited g seen₂ q₂ t₂ (up_of at) k seen₃ q₃ t₃
  pub fourth : Visited g seen₃ q₃ t₃ (down_of at) k seen' q' t'
