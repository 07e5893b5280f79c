-- Calls 7 and 26 of a trace: x 8, y 8, then the creatures; the index and the number in 8 bytes each, nothing for nobody.
use Rattle.std.specs.Prelude.{cond, List, [], ℕ, ◌+◌, ◌^◌, ◌<◌, ◌%◌, eqb, ltb, length, drop, None, Option, Some}
use Rattle.refusal.specs.Refusal.{NONE}
use Rattle.found.specs.First.{index, number}
use Rattle.found.specs.declared.Found.{Found}
use Rattle.found.specs.First.{At}
use Rattle.mine.specs.Question as Mine
use Rattle.cutter.specs.Question as Cutter
use Rattle.trace_words.specs.Numbers.{PLACE, pair_in, word_at}
use Rattle.trace_states.specs.Mines.{ENEMY}
use Rattle.trace_states.specs.Cutters.{MOVER}
use Rattle.trace_verdict.specs.Compare.{compared}
use Rattle.trace_verdict.specs.declared.Head.{Head}
use Rattle.trace_verdict.specs.declared.Part.{Part}
use Rattle.trace_verdict.specs.declared.Part.TheVariants.{Unread}
use Rattle.trace_questions.specs.Lists.{enemies_in, movers_in}

-- what is found in a list of two parts, the second of which begins at k
abbrev pub both_found : Option Found → ℕ → Option Found → Option Found
both_found f k None = f
both_found None k (Some g) = At (k + g.index) g.number
both_found (Some f) k (Some g) = At f.index (f.number + g.number)

-- and its values have room
pub record Fits (f : Option Found) (k : ℕ) (g : Option Found) : Type 0 where
  pub places : k + index g < 2 ^ 64
  pub numbers : number f + number g < 2 ^ 64

-- a question refuses nothing and leaves the state
abbrev pub found_bytes : Option Found → List ℕ
found_bytes (Some f) = pair_in PLACE f.index f.number
found_bytes None = []

unfoldable pub found_told : Head → (current state result : List ℕ) → Option Found → Part
found_told h current state result f = compared h current state result NONE 0 current (found_bytes f)

abbrev pub BEFORE_LIST : ℕ
BEFORE_LIST = 16

-- the place, then whole creatures of k bytes each; anything else can't be read
unfoldable pub asked : ℕ → List ℕ → Part → Part
asked k args p = cond (ltb (length args) BEFORE_LIST) Unread (cond (eqb (length (drop BEFORE_LIST args) % k) 0) p Unread)

module _ (h : Head) (args current state result : List ℕ) where
  unfoldable pub mine_asked : Part
  mine_asked = asked ENEMY args (found_told h current state result (Mine.who_at (enemies_in (drop BEFORE_LIST args)) (word_at PLACE 0 args) (word_at PLACE PLACE args)))

  unfoldable pub mover_asked : Part
  mover_asked = asked MOVER args (found_told h current state result (Cutter.who_at (movers_in (drop BEFORE_LIST args)) (word_at PLACE 0 args) (word_at PLACE PLACE args)))
