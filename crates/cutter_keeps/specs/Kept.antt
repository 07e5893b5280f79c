-- What a rule of Block Cutter does to the numbers of a well-formed state: black, claimed and line cells, and creatures.
use Rattle.std.specs.Prelude.{◌≡◌, ℕ, ◌+◌}
use Rattle.cutter_ground.specs.Cells.{INNER, RING}
use Rattle.cutter_state.specs.declared.Cutter.{Cutter}
use Rattle.cutter_state.specs.WellFormed.{WellFormed}
use Rattle.cutter_rules.specs.Level.{creatures_of}
use Rattle.cutter_state.specs.State.{black_in, claimed_in, line_in}

-- from c to s: s is well formed, and its numbers are c's
pub record Kept (c s : Cutter) : Type 0 where
  pub formed : WellFormed s
  pub black : black_in s ≡ black_in c
  pub claimed : claimed_in s ≡ claimed_in c
  pub line : line_in s ≡ line_in c
  pub creatures : s.count ≡ c.count

-- a black cell has become line
pub record Laid (c s : Cutter) : Type 0 where
  pub formed : WellFormed s
  pub black : black_in s + 1 ≡ black_in c
  pub claimed : claimed_in s ≡ claimed_in c
  pub line : line_in s ≡ line_in c + 1
  pub creatures : s.count ≡ c.count

-- line is back to black
pub record Erased (c s : Cutter) : Type 0 where
  pub formed : WellFormed s
  pub black : black_in s ≡ black_in c + line_in c
  pub claimed : claimed_in s ≡ claimed_in c
  pub line : line_in s ≡ 0
  pub creatures : s.count ≡ c.count

-- a cut is closed: line and the cells taken are claimed, and the creatures outside the kept region are gone
pub record Closed (c s : Cutter) (taken gone : ℕ) : Type 0 where
  pub formed : WellFormed s
  pub black : black_in s + taken ≡ black_in c
  pub claimed : claimed_in s ≡ claimed_in c + line_in c + taken
  pub line : line_in s ≡ 0
  pub creatures : c.count ≡ s.count + gone

-- a fresh level: the ring claimed, the rest black, min(level, 16) creatures
pub record Fresh (s : Cutter) : Type 0 where
  pub formed : WellFormed s
  pub black : black_in s ≡ INNER
  pub claimed : claimed_in s ≡ RING
  pub line : line_in s ≡ 0
  pub creatures : s.count ≡ creatures_of s.level
