-- Draws of any bytes are in range. Assumes nothing.
use mathlib.Core.Bool.{true}
use mathlib.Core.List.{List, [], ◌∷◌}
use mathlib.Core.Path.{◌≡◌, refl, ap, subst}
use Prim.Native.Nat.{ℕ, zero, suc, ◌+◌, ◌*◌, ◌%◌, ◌<◌}
use native.Mathlib.Nat.{mod-lt}
use native.Mathlib.Omega.{arith}
use borrow.Author.Tests.{lt-ltb, eq-eqb}
use lib.Dec.{eqb}
use lib.ListN.{length, get_or, take}
use lib.Seq.{get_or-take, length-take-le}
use Rattle.laws.proofs.Below.{all-below}
use Rattle.laws.proofs.Choice.{and_both}
use Rattle.cutter_rules.specs.Level.{DRAWS_EACH, draw_at, in_range, draws_ok}
use Rattle.console_turns.specs.Turns.{limit_at, draws_from, DrawsFit}
use Rattle.console_turns.proofs.Drawn.{limit_positive}

length_draws : (place : ℕ) (bytes : List ℕ) → length (draws_from place bytes) ≡ length bytes
unfolding draws_from
length_draws place [] = refl
length_draws place (b ∷ bytes) = ap suc (length_draws (place + 1) bytes)

-- each draw is below the limit of its place
drawn_below : (place : ℕ) (bytes : List ℕ) (j : ℕ) → get_or (draws_from place bytes) j 0 < limit_at (place + j)
unfolding draws_from
drawn_below place [] j = limit_positive (place + j)
drawn_below place (b ∷ bytes) zero = let e : place + 0 ≡ place = omega arith in rw e (mod-lt b (limit_positive place))
drawn_below place (b ∷ bytes) (suc j) = let e : place + suc j ≡ place + 1 + j = omega arith in rw e (drawn_below (place + 1) bytes j)

module _ (i : ℕ) where
  -- the limits of a creature's four draws
  first : limit_at (DRAWS_EACH * i + 0) ≡ 62
  unfolding limit_at
  first = let e : (DRAWS_EACH * i + 0) % DRAWS_EACH ≡ 0 = omega arith in rw e

  second : limit_at (DRAWS_EACH * i + 1) ≡ 30
  unfolding limit_at
  second = let e : (DRAWS_EACH * i + 1) % DRAWS_EACH ≡ 1 = omega arith in rw e

  third : limit_at (DRAWS_EACH * i + 2) ≡ 2
  unfolding limit_at
  third = let e : (DRAWS_EACH * i + 2) % DRAWS_EACH ≡ 2 = omega arith in rw e

  fourth : limit_at (DRAWS_EACH * i + 3) ≡ 2
  unfolding limit_at
  fourth = let e : (DRAWS_EACH * i + 3) % DRAWS_EACH ≡ 3 = omega arith in rw e

module _ (n : ℕ) (bytes : List ℕ) where
  abbrev draws : List ℕ
  draws = take (DRAWS_EACH * n) (draws_from 0 bytes)

  -- the draw k of the creature i
  draw_below : (i k m : ℕ) → i < n → k < DRAWS_EACH → limit_at (DRAWS_EACH * i + k) ≡ m → draw_at draws i k < m
  draw_below i k m h l e =
      let z : 0 + (DRAWS_EACH * i + k) ≡ DRAWS_EACH * i + k = omega arith in
      rw (get_or-take (DRAWS_EACH * n) (draws_from 0 bytes) (DRAWS_EACH * i + k) 0 (omega arith)) (subst (λ (z : ℕ). get_or (draws_from 0 bytes) (DRAWS_EACH * i + k) 0 < z) e
      (rw z at (drawn_below 0 bytes (DRAWS_EACH * i + k))))

  in_range_lem : (i : ℕ) → i < n → in_range draws i ≡ true
  unfolding in_range
  in_range_lem i h =
      simp (
        lt-ltb _ _ (draw_below i 0 62 h (omega arith) (first i)),
        lt-ltb _ _ (draw_below i 1 30 h (omega arith) (second i)),
        lt-ltb _ _ (draw_below i 2 2 h (omega arith) (third i)),
        lt-ltb _ _ (draw_below i 3 2 h (omega arith) (fourth i)),
      )

pub draws_fit : DrawsFit
unfolding draws_ok
draws_fit n bytes h =
    and_both (eqb (length (draws n bytes)) (DRAWS_EACH * n)) _ (eq-eqb _ _ (length-take-le (DRAWS_EACH * n) (draws_from 0 bytes) (omega (arith, length_draws 0 bytes))))
    (all-below n (in_range (draws n bytes)) (in_range_lem n bytes))
