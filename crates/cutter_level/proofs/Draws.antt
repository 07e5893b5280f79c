-- The draws of each creature, and its velocity. Assumes nothing.
use mathlib.Core.Bool.{Bool, true, false, ◌&&◌}
use mathlib.Core.List.{List}
use mathlib.Core.Path.{◌≡◌, refl, ap, ◌∙◌}
use Prim.Native.Nat.{ℕ, zero, suc, ◌+◌, ◌<◌}
use native.Mathlib.Omega.{arith}
use lib.IntN.{pos, negsuc}
use Rattle.std.specs.List.{range_with_len}
use Rattle.laws.specs.Lists.{all, all_below}
use Rattle.cutter_rules.specs.Level.{velocity}
use Rattle.cutter_rules.proofs.Draws.{draws_length, draws_fit}
use Rattle.cutter_level.specs.CodeDraws.{DrawsAt, DrawsFor}

-- draws for n creatures have those of each
pub draws_each : (draws : List ℕ) (n i : ℕ) → DrawsFor draws n → i < n → DrawsAt draws i
draws_each draws n i d h = record { there = omega (arith, draws_length draws n d.fit); fit = draws_fit draws n d.fit i h }

-- a test of each number of a range, from the front or from the back
and_swap : (x y z : Bool) → (x && (y && z)) ≡ (y && (x && z))
and_swap true y z = refl
and_swap false true z = refl
and_swap false false z = refl

range_last : (p : ℕ → Bool) (n a : ℕ) → all p (range_with_len a (suc n)) ≡ (p (a + n) && all p (range_with_len a n))
range_last p zero a = let e : a + 0 ≡ a = omega arith in rw e refl
range_last p (suc n) a =
    let e : a + 1 + n ≡ a + suc n = omega arith in
    let r = all p (range_with_len (a + 1) n) in
    ap (λ (b : Bool). p a && b) (range_last p n (a + 1)) ∙ and_swap (p a) (p (a + 1 + n)) r ∙ ap (λ (k : ℕ). p k && (p a && r)) e

pub range_below : (p : ℕ → Bool) (n : ℕ) → all p (range_with_len 0 n) ≡ all_below n p
range_below p zero = refl
range_below p (suc n) =
    let e : 0 + n ≡ n = omega arith in
    range_last p n 0 ∙ rw (e, range_below p n) refl

pub velocity-none : (d : ℕ) → d ≡ 0 → negsuc 0 ≡ velocity d
unfolding velocity
velocity-none zero e = refl
velocity-none (suc d) e = absurd (omega arith)

pub velocity-some : (d : ℕ) → (d ≡ 0 → ⊥) → pos 1 ≡ velocity d
unfolding velocity
velocity-some zero e = absurd (e refl)
velocity-some (suc d) e = refl
