-- Block Cutter: the creature tick.
use Rattle.std.specs.Prelude.{Bool, cond, ◌||◌, List, [], ◌∷◌, ◌++◌, ℕ, ◌/◌, ◌%◌, ℤ, pos, negsuc}
use Rattle.laws.specs.Lists.{any}
use Rattle.cutter_ground.specs.Cells.{CW, black_at, line_at}
use Rattle.cutter_ground.specs.declared.Mover.{Mover}
use Rattle.cutter_state.specs.declared.Cutter.{Cutter}
use Rattle.cutter_state.specs.State.{creatures, spare}
use Rattle.cutter_state.specs.Change.{with_creatures, with_dead}
use Rattle.cutter_rules.specs.Ahead.{side_of, vertical_of, diagonal_of}
use Rattle.cutter_ground.specs.Movers.{place_of}

-- the side, vertical or diagonal cell ahead is line
unfoldable pub line_ahead : List ℕ → Mover → Bool
line_ahead g e =
    line_at g (side_of e.vx (place_of e))
    || line_at g (vertical_of e.vy (place_of e))
    || line_at g (diagonal_of e.vx e.vy (place_of e))

-- 1 becomes -1, and -1 becomes 1
unfoldable pub flipped : ℤ → ℤ
flipped (pos n) = negsuc 0
flipped (negsuc n) = pos 1

-- flip if the cell isn't black
unfoldable pub turned : List ℕ → ℕ → ℤ → ℤ
turned g c v = cond (black_at g c) v (flipped v)

-- go to the new diagonal if black, else stay with those velocities
unfoldable pub gone_to : List ℕ → Mover → ℤ → ℤ → Mover
gone_to g e vx vy =
    cond (black_at g (diagonal_of vx vy (place_of e)))
    (record { x = diagonal_of vx vy (place_of e) % CW; y = diagonal_of vx vy (place_of e) / CW; vx = vx; vy = vy })
    (record { x = e.x; y = e.y; vx = vx; vy = vy })

-- flip vx if the side cell isn't black, vy likewise
unfoldable pub bounced : List ℕ → Mover → Mover
bounced g e =
    gone_to g e (turned g (side_of e.vx (place_of e)) e.vx) (turned g (vertical_of e.vy (place_of e)) e.vy)

-- in order; where line is ahead, the tick ends
unfoldable pub movers_stepped : List ℕ → List Mover → List Mover
movers_stepped g [] = []
movers_stepped g (e ∷ es) = cond (line_ahead g e) (e ∷ es) (bounced g e ∷ movers_stepped g es)

-- the creature tick: dead where one of them has line ahead
unfoldable pub enemies_stepped : Cutter → Cutter
enemies_stepped c =
    with_dead (with_creatures c (movers_stepped c.grid (creatures c) ++ spare c) c.count)
    (c.dead || any (line_ahead c.grid) (creatures c))
