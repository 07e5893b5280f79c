-- Two cases of the creature tick, computed: P12 and P13 of document 01. Assumes nothing.
use mathlib.Core.Bool.{or-false}
use mathlib.Core.List.{[], ◌∷◌}
use mathlib.Core.Path.{◌≡◌}
use lib.IntN.{pos, negsuc}
use lib.ListN.{set}
use Rattle.laws.specs.Lists.{table}
use Rattle.cutter_ground.specs.Cells.{CB_FILLED, place}
use Rattle.cutter_state.specs.declared.Cutter.{Cutter}
use Rattle.cutter_state.specs.State.{creatures}
use Rattle.cutter_state.specs.Change.{with_grid}
use Rattle.cutter_rules.specs.Ahead.{along}
use Rattle.cutter_rules.specs.Level.{fresh_grid, velocity, drawn_mover, at_start, fresh_level}
use Rattle.cutter_rules.specs.Tick.{line_ahead, flipped, turned, gone_to, bounced, movers_stepped, enemies_stepped}

-- a fresh first level with a creature at (62,10), velocity (1,1)
abbrev pub beside_ring : Cutter → Cutter
beside_ring c = fresh_level c (61 ∷ 9 ∷ 1 ∷ 1 ∷ [])

-- P12: it goes to (61,11), velocity (-1,1)
pub p12 : (c : Cutter) → c.level ≡ 1 → creatures (enemies_stepped (beside_ring c)) ≡ (record { x = 61; y = 11; vx = negsuc 0; vy = pos 1 } ∷ [])
unfolding table along fresh_grid velocity drawn_mover at_start fresh_level line_ahead flipped turned gone_to bounced movers_stepped enemies_stepped
p12 c e = rw e

-- a first level with a creature at (10,10), velocity (1,1), where of the cells ahead only the diagonal one, (11,11), is claimed
abbrev pub before_corner : Cutter → Cutter
before_corner c = with_grid (fresh_level c (9 ∷ 9 ∷ 1 ∷ 1 ∷ [])) (set fresh_grid (place 11 11) CB_FILLED)

-- P13: it stays, its velocity unchanged
pub p13 : (c : Cutter) → c.level ≡ 1 → enemies_stepped (before_corner c) ≡ before_corner c
unfolding table along fresh_grid velocity drawn_mover at_start fresh_level line_ahead flipped turned gone_to bounced movers_stepped enemies_stepped
p13 c e = rw (e, or-false c.dead)
