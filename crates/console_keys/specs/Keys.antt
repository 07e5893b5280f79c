-- Which key a byte from a terminal is: a byte by itself, or the byte that ends an escape sequence.
use Rattle.std.specs.Prelude.{cond, List, [], ◌∷◌, ℕ, eqb, ltb}
use Prim.Native.Char.{code}
use Rattle.controls.specs.Keys.{KEY_UP, KEY_LEFT, KEY_DOWN, KEY_RIGHT, KEY_QUIT}

-- beside the keys of a pass: 11 is ours, for another round, and 0 is no key: a pass ignores both
abbrev pub NO_KEY : ℕ
NO_KEY = 0

abbrev pub NEW : ℕ
NEW = 11

-- the key of a byte by a table; none for a byte that is not in it
unfoldable pub key_in : List (ℕ × ℕ) → ℕ → ℕ
key_in [] b = NO_KEY
key_in ((byte, key) ∷ table) b = cond (eqb b byte) key (key_in table b)

-- a digit moves, q and x quit, n plays another round; 4 is what a terminal sends for the end of input
abbrev pub PLAIN_KEYS : List (ℕ × ℕ)
PLAIN_KEYS = (code "5", KEY_UP) ∷ (code "7", KEY_LEFT) ∷ (code "8", KEY_DOWN) ∷ (code "9", KEY_RIGHT) ∷ (code "q", KEY_QUIT) ∷ (code "x", KEY_QUIT) ∷ (4, KEY_QUIT) ∷
    (code "n", NEW) ∷ []

-- an arrow's sequence ends with A, B, C or D: up, down, right, left
abbrev pub ARROWS : List (ℕ × ℕ)
ARROWS = (code "A", KEY_UP) ∷ (code "B", KEY_DOWN) ∷ (code "C", KEY_RIGHT) ∷ (code "D", KEY_LEFT) ∷ []

-- what the bytes before left open: nothing, an escape, or a sequence behind one
abbrev pub PLAIN : ℕ
PLAIN = 0

abbrev pub ESCAPED : ℕ
ESCAPED = 1

abbrev pub SEQUENCE : ℕ
SEQUENCE = 2

-- in a sequence only an arrow is a key, so that no digit of one moves
unfoldable pub heard_key : ℕ → ℕ → ℕ
heard_key waits b = cond (eqb waits SEQUENCE) (key_in ARROWS b) (key_in PLAIN_KEYS b)

-- escape opens, `[` or `O` behind it begins a sequence, and a byte from 64 on ends one
unfoldable pub waits_after : ℕ → ℕ → ℕ
waits_after waits b =
    cond (eqb b 27) ESCAPED
    (cond (eqb waits SEQUENCE) (cond (ltb b 64) SEQUENCE PLAIN)
    (cond (eqb waits ESCAPED) (cond (eqb b (code "[")) SEQUENCE (cond (eqb b (code "O")) SEQUENCE PLAIN)) PLAIN))

-- a key for each byte, and what they leave open
unfoldable pub keys_of : ℕ → List ℕ → List ℕ
keys_of waits [] = []
keys_of waits (b ∷ bs) = heard_key waits b ∷ keys_of (waits_after waits b) bs

unfoldable pub waits_of : ℕ → List ℕ → ℕ
waits_of waits [] = waits
waits_of waits (b ∷ bs) = waits_of (waits_after waits b) bs
