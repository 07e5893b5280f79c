-- Signed bytes and their two's complement. Assumes nothing.
use mathlib.Core.Path.{◌≡◌, refl, ap}
use mathlib.Core.Bool.{cond}
use Prim.Native.Nat.{ℕ, ◌<◌}
use native.Mathlib.Omega.{arith}
use lib.Dec.{ltb}
use lib.IntN.{ℤ, pos, negsuc}
use lib.Signed.{mag}
use mir.Syntax.{w8}
use mir.Val.{to_z, of_z}
use mir.ValLaws.{to_z-of_z}
use Rattle.trace_words.specs.Numbers.{signed_of, byte_of}

-- by what a call ensures of its result
pub kept-below : (v : ℤ) → mag v < 128 → to_z w8 (of_z w8 v) ≡ v
kept-below v h = to_z-of_z w8 v (record { sfits = h })

pub signed : (b : ℕ) → to_z w8 b ≡ signed_of b
unfolding signed_of
signed b = ap (λ n. cond (ltb b 128) (pos b) (negsuc n)) (omega arith)

pub unsigned : (v : ℤ) → of_z w8 v ≡ byte_of v
unfolding byte_of
unsigned (pos n) = refl
unsigned (negsuc n) = omega arith
