use native.Mathlib.Omega.{arith}
use Rattle.cutter_rules.specs.Level.{drawn_mover}
use Rattle.cutter_state.proofs.Signs.{kept}
use Rattle.cutter_rules.proofs.Draws.{place-fits}
use Rattle.cutter_level.proofs.drawn_mover.Goals as goal

pub overflow_add-result : goal.overflow_add-result
overflow_add-result c =
    record { fits = omega (arith, c.draw_at.ensures, place-fits c.args.draws.now c.args.i c.requires.fit) }

pub overflow_add-result-2 : goal.overflow_add-result-2
overflow_add-result-2 c =
    record { fits = omega (arith, c.draw_at-2.ensures, place-fits c.args.draws.now c.args.i c.requires.fit) }

pub returns : goal.returns
unfolding drawn_mover
returns c =
    simp (kept c.velocity_of-2.result c.velocity_of-2.type_inv, kept c.velocity_of.result c.velocity_of.type_inv)
    (simp (c.velocity_of-2.ensures, c.draw_at-4.ensures, c.velocity_of.ensures, c.draw_at-3.ensures, c.draw_at-2.ensures, c.draw_at.ensures))
