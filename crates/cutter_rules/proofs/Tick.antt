-- The creature tick, by what is ahead of a creature. Assumes nothing.
use mathlib.Core.Bool.{Bool, true, false, ◌||◌, or-true}
use mathlib.Core.List.{List, ◌∷◌}
use mathlib.Core.Path.{◌≡◌, ap}
use Prim.Native.Nat.{ℕ, ◌/◌, ◌%◌}
use lib.IntN.{ℤ}
use Rattle.cutter_ground.specs.Cells.{CW, black_at, line_at}
use Rattle.cutter_ground.specs.declared.Mover.{Mover}
use Rattle.cutter_rules.specs.Ahead.{side_of, vertical_of, diagonal_of}
use Rattle.cutter_rules.specs.Tick.{line_ahead, gone_to, movers_stepped}
use Rattle.cutter_ground.specs.Movers.{place_of}

module _ (g : List ℕ) (e : Mover) where
  -- line in any of the three cells is line ahead
  pub line_side : line_at g (side_of e.vx (place_of e)) ≡ true → line_ahead g e ≡ true
  unfolding line_ahead
  line_side l = ap (λ (b : Bool). b || line_at g (vertical_of e.vy (place_of e)) || line_at g (diagonal_of e.vx e.vy (place_of e))) l

  pub line_vertical : line_at g (vertical_of e.vy (place_of e)) ≡ true → line_ahead g e ≡ true
  unfolding line_ahead
  line_vertical l = rw (l, or-true)

  pub line_diagonal : line_at g (diagonal_of e.vx e.vy (place_of e)) ≡ true → line_ahead g e ≡ true
  unfolding line_ahead
  line_diagonal l = rw (l, or-true)

  -- where line is ahead of a creature the tick ends: it and those after it stay as they were
  pub tick-ends : (es : List Mover) → line_ahead g e ≡ true → movers_stepped g (e ∷ es) ≡ e ∷ es
  unfolding movers_stepped
  tick-ends es l = rw l

-- a creature that goes to the cell to, or stays
module _ (g : List ℕ) (e : Mover) (vx vy : ℤ) (to : ℕ) (p : to ≡ diagonal_of vx vy (place_of e)) where
  pub gone-there : black_at g to ≡ true → record { x = to % CW; y = to / CW; vx = vx; vy = vy } ≡ gone_to g e vx vy
  unfolding gone_to
  gone-there b = rw (← p, b)

  pub gone-not : black_at g to ≡ false → record { x = e.x; y = e.y; vx = vx; vy = vy } ≡ gone_to g e vx vy
  unfolding gone_to
  gone-not b = rw (← p, b)
