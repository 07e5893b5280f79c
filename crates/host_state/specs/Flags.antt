-- Flags at the boundary: a byte, 0 or 1.
use Rattle.std.specs.Prelude.{Bool, cond, ℕ, eqb, leb}

-- the byte is a flag
abbrev pub is_flag : ℕ → Bool
is_flag b = leb b 1

-- the flag of a byte
abbrev pub flag_of : ℕ → Bool
flag_of b = eqb b 1

-- the byte of a flag
abbrev pub byte_of : Bool → ℕ
byte_of f = cond f 1 0
