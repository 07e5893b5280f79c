-- The coins of half a grid, counted one by one. Assumes nothing.
use mathlib.Core.Bool.{Bool, true, false}
use mathlib.Core.List.{List}
use mathlib.Core.Path.{◌≡◌, refl}
use Prim.Native.Nat.{ℕ, ◌+◌, ◌≤◌, ◌<◌}
use native.Mathlib.Omega.{arith}
use lib.ListN.{length, get_or, take}
use mir.Val.{bool_byte}
use Rattle.laws.specs.Lists.{count, bit}
use Rattle.laws.proofs.Counts.{count-take}
use Rattle.mine_state.specs.State.{is_coin}

-- a flag as a byte
pub flag_small : (b : Bool) → bool_byte b ≤ 1
flag_small true = omega arith
flag_small false = omega arith

flag_bit : (b : Bool) → bool_byte b ≡ bit b
flag_bit true = refl
flag_bit false = refl

-- n of the first i cells hold a coin, and what the next adds
pub coins-more : (l : List ℕ) (i n : ℕ) → n ≡ count is_coin (take i l) → i < length l → n + bool_byte (is_coin (get_or l i 0)) ≡ count is_coin (take (i + 1) l)
coins-more l i n e h = rw (count-take is_coin l i 0 h, flag_bit (is_coin (get_or l i 0)), e)
