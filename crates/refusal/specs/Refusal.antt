-- The refusals of documents 01 and 02, and how a call is refused or answered.
use Rattle.std.specs.Prelude.{Bool, true, false, cond, ℕ, Result, Ok, Err}
use Rattle.refusal.specs.declared.Refusal.{Refusal}
use Rattle.refusal.specs.declared.Refusal.TheVariants.{Cells, Player, Numbers, Command, Frame, Draws, LastLevel, TooMany, OffGrid, WrongCell, Heading, SharedCell, SpareSlot}
use Rattle.refusal.specs.declared.Numbered.{Numbered}

-- the number that the documents give a refusal
abbrev pub number_of : Refusal → ℕ
number_of Cells = 1
number_of Player = 2
number_of Numbers = 4
number_of Command = 5
number_of Frame = 6
number_of Draws = 7
number_of LastLevel = 8
number_of TooMany = 31
number_of (OffGrid i) = 32
number_of (WrongCell i) = 33
number_of (Heading i) = 34
number_of (SharedCell i) = 35
number_of (SpareSlot i) = 36

-- the index of the creature or the slot that has it; a number without a place has 0
abbrev pub place_of : Refusal → ℕ
place_of Cells = 0
place_of Player = 0
place_of Numbers = 0
place_of Command = 0
place_of Frame = 0
place_of Draws = 0
place_of LastLevel = 0
place_of TooMany = 0
place_of (OffGrid i) = i
place_of (WrongCell i) = i
place_of (Heading i) = i
place_of (SharedCell i) = i
place_of (SpareSlot i) = i

-- what a check gives: nothing, or a refusal
abbrev pub Checked : Type 0
Checked = Result (Unit {0}) Refusal

abbrev pub NONE : Checked
NONE = Ok tt

-- a cell code, the ring, or line cells against trailing
abbrev pub CELLS : Checked
CELLS = Err Cells

-- the player's place, or the Cutter direction
abbrev pub PLAYER : Checked
PLAYER = Err Player

-- in place of 3, a creature or their number: too many
abbrev pub TOO_MANY : Checked
TOO_MANY = Err TooMany

-- the creature i is off the grid
abbrev pub OFF_GRID : ℕ → Checked
OFF_GRID i = Err (OffGrid i)

-- on a wrong cell
abbrev pub WRONG_CELL : ℕ → Checked
WRONG_CELL i = Err (WrongCell i)

-- its direction or velocity
abbrev pub HEADING : ℕ → Checked
HEADING i = Err (Heading i)

-- on a Mine cell shared with an earlier creature
abbrev pub SHARED_CELL : ℕ → Checked
SHARED_CELL i = Err (SharedCell i)

-- the slot i past the count isn't zeros
abbrev pub SPARE_SLOT : ℕ → Checked
SPARE_SLOT i = Err (SpareSlot i)

-- coins, needed, lives or level
abbrev pub NUMBERS : Checked
NUMBERS = Err Numbers

-- a direction command above 3
abbrev pub COMMAND : Checked
COMMAND = Err Command

-- in a picture, a frame that isn't 1,024 bytes
abbrev pub FRAME : Checked
FRAME = Err Frame

-- draws: wrong number, or one out of range
abbrev pub DRAWS : Checked
DRAWS = Err Draws

-- a new level is due and the level is 65,535
abbrev pub LAST_LEVEL : Checked
LAST_LEVEL = Err LastLevel

-- the number that is given and its place, 0 and 0 for none
abbrev pub number_given : Checked → ℕ
number_given (Ok u) = 0
number_given (Err r) = number_of r

abbrev pub place_given : Checked → ℕ
place_given (Ok u) = 0
place_given (Err r) = place_of r

-- the same, as C and a trace hold it
abbrev pub numbered_of : Checked → Numbered
numbered_of c = record { number = number_given c; at = place_given c }

-- no number is given
abbrev pub clear : Checked → Bool
clear (Ok u) = true
clear (Err r) = false

-- one check, and the refusal given where it fails
abbrev pub unless : Bool → Checked → Checked
unless ok r = cond ok NONE r

-- two checks in order: the first that applies is given
infixl 20 ◌then◌
abbrev pub ◌then◌ : Checked → Checked → Checked
r then s = cond (clear r) s r

-- a call is refused, with what it gives for that refusal, or answered
abbrev pub refused_or : {A : Type 0} → Checked → (Checked → A) → A → A
refused_or r refused answer = cond (clear r) answer (refused r)
