-- Who is there, and how many. Assumes nothing.
use Rattle.std.specs.Prelude.{None}
use mathlib.Core.Path.{◌≡◌, refl}
use borrow.Author.Tests.{eq-eqb}
use Rattle.laws.specs.Lists.{table}
use Rattle.found.proofs.First.{number-count, nobody_zero}
use Rattle.found.specs.First.{At}
use Rattle.mine_state.specs.State as Mine
use Rattle.mine_state.proofs.Alone.{alone}
use Rattle.cutter_ground.specs.Movers as Cutter
use Rattle.cutter.specs.Question.{who_at}
use Rattle.cutter_state.specs.declared.Cutter.{Cutter}
use Rattle.cutter_state.specs.State.{creatures}
use Rattle.cutter_rules.specs.Level.{velocity, drawn_mover, fresh_level}
use Rattle.games.specs.Several.{four_draws, Several}

three : (c : Cutter) → c.level ≡ 4 → who_at (creatures (fresh_level c four_draws)) 10 10 ≡ At 1 3
unfolding table velocity drawn_mover fresh_level
three c e = rw e

elsewhere : (c : Cutter) → c.level ≡ 4 → who_at (creatures (fresh_level c four_draws)) 11 10 ≡ None
unfolding table velocity drawn_mover fresh_level
elsewhere c e = rw e

pub several : Several
several =
    record {
      mine_number = λ l x y. number-count (Mine.stands_at x y) l;
      cutter_number = λ l x y. number-count (Cutter.stands_at x y) l;
      mine_nobody = λ l x y. nobody_zero (Mine.stands_at x y) l;
      cutter_nobody = λ l x y. nobody_zero (Cutter.stands_at x y) l;
      alone = alone;
      twice = λ e. rw (eq-eqb e.x e.x refl, eq-eqb e.y e.y refl);
      three = three;
      elsewhere = elsewhere;
    }
