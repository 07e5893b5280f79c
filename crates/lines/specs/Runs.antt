-- A run of bytes, one after the other, whatever the game: the game after it, and the lines that it prints.
use Rattle.std.specs.Prelude.{Bool, cond, ◌&&◌, List, [], ◌∷◌, ◌++◌, ◌≡◌, ℕ, eqb, Ok, Err}
use Prim.Native.Char.{code}
use Rattle.refusal.specs.Refusal.{Checked}
use Rattle.text.specs.Text.{line_of}
use Rattle.text.specs.CodePuts.{Puts}
use Rattle.text.specs.declared.Says.{Says}
use Rattle.text.specs.declared.Says.TheVariants.{Nothing, Numbers, Refused}
use Rattle.lines.specs.declared.playing.Said.{Said}
use Rattle.lines.specs.declared.playing.Run.{Run}

-- what parts the scripts of a run of cases
abbrev pub BAR : ℕ
BAR = code "|"

module _ {S : Type 0} (step : S → ℕ → S) where
  unfoldable pub after : S → List ℕ → S
  after s [] = s
  after s (b ∷ bs) = after (step s b) bs

  -- `line` is what a byte prints
  unfoldable pub lines_of : (S → ℕ → List ℕ) → S → List ℕ → List ℕ
  lines_of line s [] = []
  lines_of line s (b ∷ bs) = line s b ++ lines_of line (step s b) bs

-- what a call says: the numbers of its game, or why it is refused
abbrev pub says_of : Checked → Says
says_of (Ok u) = Numbers
says_of (Err r) = Refused r

abbrev pub said : {S : Type 0} → Says → S → Said S
said s g = record { says = s; game = g }

-- A game by what a byte does with it, and by the game that a script starts with.
module _ {S : Type 0} (byte : S → ℕ → Said S) (start : S) where
  -- where a run is parted into scripts, each starts anew, and nothing is said of the start
  unfoldable pub next : Bool → S → ℕ → Said S
  next parted s b = cond (parted && eqb b BAR) (said Nothing start) (byte s b)

  -- the game after a byte
  abbrev pub step : Bool → S → ℕ → S
  step parted s b = (next parted s b).game

  -- the game after a run
  abbrev pub game_after : Bool → S → List ℕ → S
  game_after parted = after (step parted)

  -- `numbers` are a line's
  module _ (numbers : S → List ℕ) where
    abbrev pub line : Bool → S → ℕ → List ℕ
    line parted s b = line_of (next parted s b).says (numbers (step parted s b))

    abbrev pub lines_after : Bool → S → List ℕ → List ℕ
    lines_after parted = lines_of (step parted) (line parted)

    -- a run is played, and its lines stand at the start of a buffer
    pub record Ran (parted : Bool) (s : S) (bytes before : List ℕ) (r : Run S) (now : List ℕ) : Type 0 where
      pub played : r.game ≡ game_after parted s bytes
      pub told : Puts (lines_after parted s bytes) 0 before r.end now
