-- What a pass answers: document 01's number and word for each case of the enum.
use Rattle.std.specs.Prelude.{ℕ}
use Prim.Native.String.{String}
use Rattle.answer.specs.declared.Answer.{Answer}
use Rattle.answer.specs.declared.Answer.TheVariants.{GoingOn, Won, Dead, Over, Quit}

-- going on, won, dead, over, quit
abbrev pub GOING_ON : ℕ
GOING_ON = 0

abbrev pub WON : ℕ
WON = 1

abbrev pub DEAD : ℕ
DEAD = 2

abbrev pub OVER : ℕ
OVER = 3

abbrev pub QUIT : ℕ
QUIT = 4

-- the number of a case, and its word
abbrev pub number_of : Answer → ℕ
number_of GoingOn = GOING_ON
number_of Won = WON
number_of Dead = DEAD
number_of Over = OVER
number_of Quit = QUIT

abbrev pub word_of : Answer → String
word_of GoingOn = "going on"
word_of Won = "won"
word_of Dead = "dead"
word_of Over = "over"
word_of Quit = "quit"
