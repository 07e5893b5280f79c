-- A refusal's place, as an entry tells it. Assumes nothing.
use mathlib.Core.Path.{◌≡◌}
use Prim.Native.Nat.{ℕ, ◌<◌, ◌≤◌}
use borrow.Author.Tests.{lt-ltb, le-ltb}
use Rattle.trace_verdict.specs.Compare.{FAR, place_told}

-- a place before 65,535 is told as it is, any other as 65,535
pub near : (at : ℕ) → at < FAR → place_told at ≡ at
unfolding place_told
near at h = rw (lt-ltb at FAR h)

pub far : (at : ℕ) → FAR ≤ at → place_told at ≡ FAR
unfolding place_told
far at h = rw (le-ltb at FAR h)
