-- What the reading of a trace keeps of its buffers.
use Rattle.std.specs.Prelude.{◌≡◌, ℕ, ◌<◌, ◌≤◌, List, length}

-- the bytes of three parts at most; of one
abbrev pub BODY : ℕ
BODY = 196608

abbrev pub MOST : ℕ
MOST = 65536

-- the lengths of the three parts
pub record Lengths (args state result : ℕ) : Type 0 where
  pub arguments : args < MOST
  pub states : state < MOST
  pub results : result < MOST

-- the body, and the current state in the first n bytes of its buffer
pub record Buffers (body current : List ℕ) (n : ℕ) : Type 0 where
  pub whole : length body ≡ BODY
  pub room : length current ≡ MOST
  pub inside : n ≤ MOST
