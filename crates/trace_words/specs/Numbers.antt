-- Numbers in a trace: low byte first, at the full width of their type.
use Rattle.std.specs.Prelude.{Bool, cond, not, List, [], ◌∷◌, ◌++◌, ◌≡◌, ℕ, zero, suc, ◌+◌, ◌-◌, ◌*◌, ◌/◌, ◌%◌, ◌^◌, ◌<◌, ◌≤◌, eqb, ltb, ℤ, pos, negsuc, length, get_or}
use Rattle.laws.specs.Lists.{table}

-- the byte at a place
abbrev pub byte_at : ℕ → List ℕ → ℕ
byte_at at l = get_or l at 0

-- the number in k bytes from a place on
unfoldable pub word_at : ℕ → ℕ → List ℕ → ℕ
word_at zero at l = 0
word_at (suc k) at l = word_at k (at + 1) l * 256 + byte_at at l

-- the k low bytes of a number
unfoldable pub bytes_in : ℕ → ℕ → List ℕ
bytes_in k n = table k (λ i. n / 256 ^ i % 256)

-- two numbers of k bytes each
abbrev pub pair_in : ℕ → ℕ → ℕ → List ℕ
pair_in k n m = bytes_in k n ++ bytes_in k m

-- a signed byte is its two's complement
unfoldable pub signed_of : ℕ → ℤ
signed_of b = cond (ltb b 128) (pos b) (negsuc (255 - b))

unfoldable pub byte_of : ℤ → ℕ
byte_of (pos n) = n
byte_of (negsuc n) = 255 - n

-- a flag is set by a byte that is not 0; written, it is a byte 0 or 1
abbrev pub flag_at : ℕ → List ℕ → Bool
flag_at at l = not (eqb (byte_at at l) 0)

-- the widths of a place or a count, and of a number of 32 bits
abbrev pub PLACE : ℕ
PLACE = 8

abbrev pub MARK : ℕ
MARK = 4

-- n cells from a place on
unfoldable pub cells_at : ℕ → ℕ → List ℕ → List ℕ
cells_at n at l = table n (λ i. byte_at (at + i) l)

-- the bytes of each element, one behind the other
unfoldable pub flat : {A : Type 0} → (A → List ℕ) → List A → List ℕ
flat f [] = []
flat f (a ∷ l) = f a ++ flat f l

-- at most 8 bytes, all of them there
pub record InWord (l : List ℕ) (at k : ℕ) : Type 0 where
  pub narrow : k ≤ 8
  pub inside : at + k ≤ length l

-- the number, and that it fits its bytes
pub record Word (k at : ℕ) (l : List ℕ) (r : ℕ) : Type 0 where
  pub is : r ≡ word_at k at l
  pub fits : r < 256 ^ k
