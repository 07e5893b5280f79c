-- Document 01, 'The frame': pixels, and the bytes that hold them.
use Rattle.std.specs.Prelude.{Bool, ◌&&◌, cond, List, [], ℕ, ◌+◌, ◌*◌, ◌/◌, ◌%◌, eqb, ltb, get_or, length, take, drop}
use Rattle.laws.specs.Lists.{table}
use Rattle.bits.specs.Bits.{number, bit_at}

-- eight pages of 128 bytes
abbrev pub PAGES : ℕ
PAGES = 8

abbrev pub PAGE_LEN : ℕ
PAGE_LEN = 128

abbrev pub FRAME_LEN : ℕ
FRAME_LEN = 1024

-- byte x of page p holds rows 8p to 8p+7 of column x, lowest bit topmost: byte i, where lit x y tells the pixels
abbrev pub page_byte : (ℕ → ℕ → Bool) → ℕ → ℕ
page_byte lit i = number 8 (λ j. lit (i % PAGE_LEN) (i / PAGE_LEN * 8 + j))

-- the frame that shows exactly the lit pixels
unfoldable pub pack : (ℕ → ℕ → Bool) → List ℕ
pack lit = table FRAME_LEN (page_byte lit)

-- reading back: the pixel in column x of row y
abbrev pub pixel : List ℕ → ℕ → ℕ → Bool
pixel frame x y = bit_at (get_or frame (y / 8 * PAGE_LEN + x) 0) (y % 8)

-- asking for a page gives that part of the frame; a number above 7 or a wrong length gives the empty part
unfoldable pub page_of : List ℕ → ℕ → List ℕ
page_of frame p = cond (eqb (length frame) FRAME_LEN && ltb p PAGES) (take PAGE_LEN (drop (p * PAGE_LEN) frame)) []
