-- The search over all regions with one queue: what it asks, and what it leaves. Read by proofs; no promise cites it.
use Rattle.std.specs.Prelude.{◌≡◌, true, false, List, ◌⊎◌, ℕ, ◌+◌, ◌≤◌, ◌<◌, eqb, length, get_or, replicate}
use Rattle.laws.specs.Lists.{any, bit, count}
use Rattle.cutter_ground.specs.Cells.{CN}
use Rattle.cutter_ground.specs.declared.Mover.{Mover}
use Rattle.cutter_joined.proofs.Labels.{labels}
use Rattle.cutter_closing.specs.Counted.{counted, cells_in}
use Rattle.cutter_regions.specs.CodeSeeking.{Queued}
use Rattle.cutter_closing.specs.Closing.{kept}
use Rattle.cutter_capture.specs.CodeSteps.{KEPT, Placed}

-- where L has a number for each cell, these are the right ones
abbrev pub Numbered : (g L : List ℕ) → Type 0
Numbered g L = length L ≡ CN → L ≡ (labels g).0

-- cleared marks, a queue of full length, and a region may be counted
pub record Choosable (g L seen q : List ℕ) (es : List Mover) (limit : ℕ) : Type 0 where
  pub cells : length g ≡ CN
  pub numbered : Numbered g L
  pub clear : seen ≡ replicate CN 0
  pub long : length q ≡ CN
  pub placed : Placed es
  pub some : 0 < limit

-- a region is kept, and the queue's part from a to b holds just its cells
pub record Keeps (limit : ℕ) (L : List ℕ) (es : List Mover) (q : List ℕ) (a b : ℕ) : Type 0 where
  pub some : a < b
  pub inn : kept limit L es < CN
  pub among : any (eqb (kept limit L es)) (counted limit L) ≡ true
  pub theirs : (k : ℕ) → a ≤ k → k < b → get_or L (get_or q k 0) CN ≡ kept limit L es
  pub queued : (c : ℕ) → get_or L c CN ≡ kept limit L es → Queued q a b c
  pub size : b ≡ a + cells_in L (kept limit L es)

-- there is no region
pub record Nothing (limit : ℕ) (L : List ℕ) (es : List Mover) (a b : ℕ) : Type 0 where
  pub none : a ≡ b
  pub all : (c : ℕ) → CN ≤ get_or L c CN
  pub off : (c : ℕ) → any (eqb (get_or L c CN)) (counted limit L) ≡ false
  pub keep : kept limit L es ≡ CN

-- just the cells of counted regions are marked, each stands on the queue once, and the part from a to b is the kept region's
pub record ChosenBy (L : List ℕ) (limit : ℕ) (es : List Mover) (seen q : List ℕ) (a b taken : ℕ) : Type 0 where
  pub len : length seen ≡ CN
  pub long : length q ≡ CN
  pub room : b ≤ CN
  pub marks : (c : ℕ) → get_or seen c 0 ≡ bit (any (eqb (get_or L c CN)) (counted limit L))
  pub cells : (k : ℕ) → k < taken → any (eqb (get_or L (get_or q k 0) CN)) (counted limit L) ≡ true
  pub once : (i j : ℕ) → i < taken → j < taken → get_or q i 0 ≡ get_or q j 0 → i ≡ j
  pub account : taken ≡ count (λ l. any (eqb l) (counted limit L)) L
  pub best : Nothing limit L es a b ⊎ Keeps limit L es q a b

abbrev pub Chosen : (limit : ℕ) (g : List ℕ) (es : List Mover) (seen q : List ℕ) (a b taken : ℕ) → Type 0
Chosen limit g es seen q a b taken = ChosenBy (labels g).0 limit es seen q a b taken

-- a part of the queue, with cells of the grid
pub record Markable (seen q : List ℕ) (a b : ℕ) : Type 0 where
  pub order : a ≤ b
  pub len : length seen ≡ CN
  pub long : length q ≡ CN
  pub room : b ≤ CN
  pub inn : (k : ℕ) → a ≤ k → k < b → get_or q k 0 < CN

pub record Marked (seen₀ q : List ℕ) (a b : ℕ) (seen : List ℕ) : Type 0 where
  pub len : length seen ≡ CN
  pub hit : (c : ℕ) → Queued q a b c → get_or seen c 0 ≡ KEPT
  pub miss : (c : ℕ) → (Queued q a b c → ⊥) → get_or seen c 0 ≡ get_or seen₀ c 0
