-- The draws of a level: how many creatures, what a range says, and lists of draws in range. Assumes nothing.
use mathlib.Core.Bool.{true, ◌&&◌}
use mathlib.Core.List.{List}
use mathlib.Core.Path.{◌≡◌}
use Prim.Native.Nat.{ℕ, ◌*◌, ◌≤◌, ◌<◌}
use native.Mathlib.Nat.{min-le_right}
use lib.Dec.{eqb, ltb}
use lib.ListN.{length}
use borrow.Author.Tests.{ltb-true, eqb-true}
use Rattle.laws.specs.Lists.{all_below}
use Rattle.laws.proofs.Choice.{and_left, and_right}
use Rattle.laws.proofs.Below.{at_below}
use Rattle.cutter_rules.specs.Level.{DRAWS_EACH, creatures_of, draw_at, in_range, draws_ok}
use Rattle.cutter_ground.specs.Movers.{MAX_ENEMIES}

-- at most 16 creatures, whatever the level
pub creatures-few : (level : ℕ) → creatures_of level ≤ MAX_ENEMIES
creatures-few level = min-le_right level MAX_ENEMIES

-- places fit a byte
pub place-fits : (draws : List ℕ) (i : ℕ) → in_range draws i ≡ true → (draw_at draws i 0 < 62) × (draw_at draws i 1 < 30)
unfolding in_range
place-fits draws i e =
    let a = ltb (draw_at draws i 0) 62 in
    let b = ltb (draw_at draws i 1) 30 in
    let c = ltb (draw_at draws i 2) 2 in
    let h = and_left (a && b) c (and_left (a && b && c) (ltb (draw_at draws i 3) 2) e) in
    (ltb-true (draw_at draws i 0) 62 (and_left a b h), ltb-true (draw_at draws i 1) 30 (and_right a b h))

module _ (draws : List ℕ) (n : ℕ) (fit : draws_ok draws n ≡ true) where
  -- four for each of n creatures
  pub draws_length : length draws ≡ DRAWS_EACH * n
  unfolding draws_ok
  draws_length = eqb-true (length draws) (DRAWS_EACH * n) (and_left (eqb (length draws) (DRAWS_EACH * n)) (all_below n (in_range draws)) fit)

  -- those of each are in range
  pub draws_fit : (i : ℕ) → i < n → in_range draws i ≡ true
  unfolding draws_ok
  draws_fit = at_below n (in_range draws) (and_right (eqb (length draws) (DRAWS_EACH * n)) (all_below n (in_range draws)) fit)
