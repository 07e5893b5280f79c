use Rattle.std.specs.Prelude.{Option, Some}
use mathlib.Core.Path.{◌≡◌, refl, sym, ◌∙◌}
use Prim.Native.Nat.{◌<◌}
use native.Mathlib.Omega.{arith}
use Rattle.mine_state.specs.declared.Mine.{Mine}
use Rattle.mine_state.specs.declared.Enemy.{Enemy}
use Rattle.mine_state.specs.State.{W, H}
use Rattle.mine_state.proofs.Creatures.{map-inside}
use Rattle.mine_rules.specs.Tick.{turns, chosen}
use Rattle.mine_moves.proofs.Turns.{begins, here, state, here-on_map, goes_on, stays, walks}
use Rattle.mine_moves.proofs.ticks.tick_on.Goals.{After-choose, in-Some, in_default}
use Rattle.mine_moves.proofs.ticks.tick_on.Goals as goal

abbrev Chosen : Type 0
Chosen = After-choose

steps : (f : Chosen) {r : Option Enemy} → f.choose.result ≡ r → (m : Mine) → chosen (state f.loop-k.k f.loop-k.invariant m) (here f.loop-k.k f.loop-k.invariant) turns ≡ r
steps f e m = sym (f.choose.ensures (state f.loop-k.k f.loop-k.invariant m) refl f.loop-k.invariant.parts.spotted) ∙ e

goal_is : (f : Chosen) {to : Enemy} → f.choose.result ≡ Some to → (to.x < W) × (to.y < H)
goal_is f {to} e = map-inside to (goes_on f.loop-k.k f.loop-k.invariant f.loop-k-test.true to (steps f e))

pub loop-k-init : goal.loop-k-init
loop-k-init c = begins c.args.grid.now c.args.count c.args.px c.args.py c.args.spots.now c.args.dirs.now c.requires.parts

pub choose-requires : goal.choose-requires
choose-requires c =
    let d = c.loop-k.invariant in
    record {
      lent = record { cells = c.requires.cells; slots = d.parts.slots };
      placed = here-on_map c.loop-k.k d c.loop-k-test.true;
    }

pub overflow_mul-spots : goal.overflow_mul-spots
overflow_mul-spots c = omega (arith, goal_is (goal.at.overflow_mul-spots c).After-choose c.in-Some.is)

pub overflow_add-spots : goal.overflow_add-spots
overflow_add-spots c = omega (arith, goal_is (goal.at.overflow_add-spots c).After-choose c.in-Some.is)

pub overflow_cast-spots : goal.overflow_cast-spots
overflow_cast-spots c = omega (arith, goal_is (goal.at.overflow_cast-spots c).After-choose c.in-Some.is)

pub loop-k-preserved : goal.loop-k-preserved
loop-k-preserved c =
    let f = (goal.at.loop-k-preserved c).After-choose in
    elim c.match-choose.branch [
      | in-Some w ↦ rw (w.spots-is, w.dirs-is, w.caught-is) (walks c.loop-k.k c.loop-k.invariant c.loop-k-test.true w.in-Some.to (steps f w.in-Some.is))
      | in_default w ↦ rw (w.spots-is, w.dirs-is, w.caught-is) (stays c.loop-k.k c.loop-k.invariant c.loop-k-test.true (steps f w.in_default.is))
    ]
