-- Numbers as bits, and tile art as document 01 has it.
use Rattle.std.specs.Prelude.{Bool, List, ℕ, zero, suc, ◌+◌, ◌-◌, ◌*◌, ◌/◌, ◌%◌, ◌^◌, eqb, get_or}
use Rattle.laws.specs.Lists.{bit}

-- the number whose bit j is f j, for j below n
unfoldable pub number : ℕ → (ℕ → Bool) → ℕ
number zero f = 0
number (suc n) f = bit (f n) * 2 ^ n + number n f

-- bit k of n
abbrev pub bit_at : ℕ → ℕ → Bool
bit_at n k = eqb (n / 2 ^ k % 2) 1

-- tile art is one byte per row, its highest bit leftmost: the pixel in column gx of row gy
abbrev pub art_bit : List ℕ → ℕ → ℕ → Bool
art_bit pat gx gy = bit_at (get_or pat gy 0) (7 - gx)
