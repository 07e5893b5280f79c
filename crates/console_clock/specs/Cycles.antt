-- The system's clock in the games' unit: 80 cycles to a microsecond.
use Rattle.std.specs.Prelude.{ℕ, ◌+◌, ◌*◌, ◌/◌, ◌%◌, ◌^◌, ℤ, pos, negsuc}

-- a number below 0 counts as 0
abbrev pub natural_of : ℤ → ℕ
natural_of (pos n) = n
natural_of (negsuc n) = 0

abbrev pub SECOND : ℕ
SECOND = 80000000

-- the cycles of a time, wrapping at 2^32: 80,000,000 to a second, two to 25 nanoseconds
unfoldable pub cycles_of : ℕ → ℕ → ℕ
cycles_of sec nsec = (sec * SECOND + nsec / 25 * 2) % 2 ^ 32
