-- The player's step, by what it finds on the way. Assumes nothing.
use Rattle.std.specs.Prelude.{None, Option}
use mathlib.Core.Bool.{Bool, true, false, cond, ◌&&◌}
use mathlib.Core.Path.{◌≡◌, sym, ap, ◌∙◌}
use Prim.Native.Nat.{ℕ, ◌/◌, ◌%◌, ◌≤◌, ◌<◌}
use native.Mathlib.Omega.{arith}
use borrow.Author.Tests.{le-leb, lt-leb, le-ltb, lt-ltb}
use Rattle.found.specs.declared.Found.{Found}
use Rattle.found.specs.First.{At}
use Rattle.cutter_ground.specs.Cells.{CW, CN, on_border, line_at, claimed_at, place}
use Rattle.cutter_border.proofs.Nearest.{nearest}
use Rattle.cutter_state.specs.declared.Cutter.{Cutter}
use Rattle.cutter_state.specs.State.{creatures}
use Rattle.cutter_state.specs.Change.{killed}
use Rattle.cutter_rules.specs.Step.{no_direction, stopped, player_cell, target, cut_closed, at_border, trailing_step, walking_step, met, stepped, creature_at, advances, closes}

-- no direction, nothing
pub step-none : (c : Cutter) → no_direction c ≡ true → c ≡ stepped c
unfolding stepped
step-none c d = rw d

module _ (c : Cutter) (d : no_direction c ≡ false) (t : ℕ) (e : t ≡ target c) where
  -- off the grid, the direction clears
  pub step-off : CN ≤ t → stopped c ≡ stepped c
  unfolding stepped
  step-off h = rw (d, ← e, le-leb CN t h)

  step_on : (f : Option Found) → t < CN → f ≡ creature_at (creatures c) t → met f c t ≡ stepped c
  unfolding stepped
  step_on f h q = rw (d, ← e, lt-leb CN t h, ← q)

  pub step-killed : (f : Option Found) {i n : ℕ} → t < CN → f ≡ creature_at (creatures c) t → f ≡ At i n → killed c ≡ stepped c
  unfolding met
  step-killed f h q a = rw a at (step_on f h q)

  pub step_trailing : (f : Option Found) → t < CN → f ≡ creature_at (creatures c) t → f ≡ None → c.trailing ≡ true → trailing_step c t ≡ stepped c
  unfolding met
  step_trailing f h q a b = ap (λ (x : Bool). cond x (trailing_step c t) (walking_step c t)) (sym b) ∙ (rw a at (step_on f h q))

  pub step_walking : (f : Option Found) → t < CN → f ≡ creature_at (creatures c) t → f ≡ None → c.trailing ≡ false → walking_step c t ≡ stepped c
  unfolding met
  step_walking f h q a b = ap (λ (x : Bool). cond x (trailing_step c t) (walking_step c t)) (sym b) ∙ (rw a at (step_on f h q))

-- and whether it closes a cut
pub closes-none : (c : Cutter) → no_direction c ≡ true → closes c ≡ false
unfolding closes advances
closes-none c d = rw d

module _ (c : Cutter) (d : no_direction c ≡ false) (t : ℕ) (e : t ≡ target c) where
  pub closes-off : CN ≤ t → closes c ≡ false
  unfolding closes advances
  closes-off h = rw (d, ← e, le-ltb t CN h)

  pub closes-killed : (f : Option Found) {i n : ℕ} → t < CN → f ≡ creature_at (creatures c) t → f ≡ At i n → closes c ≡ false
  unfolding closes advances
  closes-killed f h q a = rw (d, ← e, lt-ltb t CN h, ← q, a)

  pub closes_free : (f : Option Found) (b : Bool) → t < CN → f ≡ creature_at (creatures c) t → f ≡ None → c.trailing ≡ b → closes c ≡ (b && claimed_at c.grid t)
  unfolding closes advances
  closes_free f b h q a k = rw (d, ← e, lt-ltb t CN h, ← q, a, k)

-- claimed ground without black around it is not entered, and the direction clears
pub inland_stops : (c : Cutter) (t : ℕ) → claimed_at c.grid t ≡ true → on_border c.grid t ≡ false → walking_step c t ≡ stopped c
unfolding walking_step
inland_stops c t k b = rw (k, b)

pub place-cell : (t : ℕ) → place (t % CW) (t / CW) ≡ t
place-cell t = omega arith

-- a step that closes leaves the player at the border of the ground that is left, at the place nearest to the cell that it entered
pub closed-at_border : (c : Cutter) (t : ℕ) → line_at c.grid t ≡ false → claimed_at c.grid t ≡ true → player_cell (trailing_step c t) ≡ (nearest (trailing_step c t).grid t).0
unfolding trailing_step at_border cut_closed
closed-at_border c t l k = rw (l, k, place-cell t) (place-cell _)
