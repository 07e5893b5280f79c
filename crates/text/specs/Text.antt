-- Document 01, 'Programs and cases': the lines of the programs, as bytes.
use Rattle.refusal.specs.declared.Refusal.{Refusal}
use Rattle.refusal.specs.Refusal.{number_of, place_of}
use Rattle.std.specs.Prelude.{cond, List, [], ◌∷◌, ◌++◌, ℕ, zero, suc, ◌+◌, ◌/◌, ◌%◌, ltb}
use Prim.Native.Char.{code}
use Prim.Native.String.{String}
use Prim.Native.String as S
use Rattle.text.specs.declared.Says.{Says}
use Rattle.text.specs.declared.Says.TheVariants.{Nothing, Numbers, Refused}

-- the bytes of a quoted text
abbrev pub bytes_of : String → List ℕ
bytes_of S.[] = []
bytes_of (S.◌∷◌ c s) = code c ∷ bytes_of s

abbrev pub SPACE : ℕ
SPACE = 32

abbrev pub NEWLINE : ℕ
NEWLINE = 10

-- a number has at most 20 digits, a line seven numbers with a byte behind each
abbrev pub DIGITS : ℕ
DIGITS = 20

abbrev pub NUMBERS : ℕ
NUMBERS = 7

abbrev pub LINE : ℕ
LINE = 147

-- a place with its words
abbrev pub PLACED : ℕ
PLACED = 25

abbrev pub digit : ℕ → ℕ
digit d = code "0" + d

-- n in decimal, with k digits at most
unfoldable pub decimal_in : ℕ → ℕ → List ℕ
decimal_in zero n = []
decimal_in (suc k) n = cond (ltb n 10) (digit n ∷ []) (decimal_in k (n / 10) ++ digit (n % 10) ∷ [])

abbrev pub decimal : ℕ → List ℕ
decimal n = decimal_in DIGITS n

-- further numbers, a space before each, and the line's end
unfoldable pub further : List ℕ → List ℕ
further [] = NEWLINE ∷ []
further (n ∷ ns) = SPACE ∷ decimal n ++ further ns

-- numbers, one space between
unfoldable pub numbers_line : List ℕ → List ℕ
numbers_line [] = NEWLINE ∷ []
numbers_line (n ∷ ns) = decimal n ++ further ns

-- ` at ` and the place of a number from 31 on; others have none
unfoldable pub place_line : Refusal → List ℕ
place_line r = cond (ltb (number_of r) 31) (NEWLINE ∷ []) (bytes_of " at " ++ decimal (place_of r) ++ NEWLINE ∷ [])

-- `refused` and the number, with its place
unfoldable pub refused_line : Refusal → List ℕ
refused_line r = bytes_of "refused " ++ decimal (number_of r) ++ place_line r

-- the line for what is said
unfoldable pub line_of : Says → List ℕ → List ℕ
line_of Nothing ns = []
line_of Numbers ns = numbers_line ns
line_of (Refused k) ns = refused_line k
