-- What the functions that write a frame as text ask.
use Rattle.std.specs.Prelude.{List, ◌≡◌, ℕ, ◌+◌, ◌<◌, length}

-- a line's buffer has room for a block and the line's end
pub record Room (out : List ℕ) (at : ℕ) : Type 0 where
  pub whole : length out ≡ 385
  pub room : at + 3 < 385

-- a frame, and one of its 32 lines
pub record Line (frame : List ℕ) (y : ℕ) : Type 0 where
  pub whole : length frame ≡ 1024
  pub inside : y < 32
