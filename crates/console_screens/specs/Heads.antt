-- The line above the frame, as bytes.
use Rattle.std.specs.Prelude.{cond, List, ◌++◌, ℕ, ◌+◌, ◌≤◌, eqb, length}
use Prim.Native.String.{String}
use Rattle.answer.specs.Answer.{GOING_ON, WON, DEAD, OVER, QUIT}
use Rattle.text.specs.Text.{DIGITS, bytes_of, decimal}
use Rattle.text.specs.CodePuts.{Puts}

-- a head line's room
abbrev pub HEAD : ℕ
HEAD = 256

-- how the round stands, and what the keys do
abbrev pub state_text : ℕ → String
state_text stands =
    cond (eqb stands GOING_ON) "   5 8 7 9 or the arrows move, q quits"
    (cond (eqb stands WON) "   won: n plays another round, q quits"
    (cond (eqb stands DEAD) "   dead: n plays another round, q quits"
    (cond (eqb stands OVER) "   over: n plays another round, q quits"
    (cond (eqb stands QUIT) "   quit" "   refused: n plays another round, q quits"))))

unfoldable pub state_bytes : ℕ → List ℕ
state_bytes stands = bytes_of (state_text stands)

-- a word, and a number
abbrev pub field_text : List ℕ → ℕ → List ℕ
field_text word n = word ++ decimal n

-- it stands from `at` to `end`, and the number takes at most 20 bytes
pub record FieldPut (word : List ℕ) (n at : ℕ) (before : List ℕ) (end : ℕ) (after : List ℕ) : Type 0 where
  pub puts : Puts (field_text word n) at before end after
  pub short : end ≤ at + length word + DIGITS

-- Block Mine: coins of needed
unfoldable pub mine_head : ℕ → ℕ → ℕ → List ℕ
mine_head coins needed stands = field_text (bytes_of "Block Mine   coins ") coins ++ (field_text (bytes_of " of ") needed ++ state_bytes stands)

-- Block Cutter: level, lives and share
unfoldable pub cutter_head : ℕ → ℕ → ℕ → ℕ → List ℕ
cutter_head level lives share stands =
    field_text (bytes_of "Block Cutter   level ") level ++ (field_text (bytes_of "   lives ") lives ++ (field_text (bytes_of "   share ") share ++ (bytes_of " %" ++ state_bytes stands)))

-- room for a state behind at most so many bytes
abbrev pub STATE : ℕ
STATE = 48
