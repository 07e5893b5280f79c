use Rattle.std.proofs.Common.{rules, tests, arith, ◌*◌, length, refl, ◌∙◌}
use Rattle.std.proofs.lemmas.Iterator.{YieldsList-from_range}
use Rattle.std.proofs.lemmas.Iterator.Search.{all_from_yields_List}
use borrow.Author.Tests.{eq-eqb, ne_eqb}
use Rattle.cutter_rules.specs.Level.{DRAWS_EACH, in_range, draws_ok}
use Rattle.cutter_level.proofs.Draws.{range_below}
use Rattle.cutter_level.proofs.draws_ok.Goals as goal

pub returns-then-draws-n : goal.returns-then-draws-n
unfolding draws_ok
returns-then-draws-n c =
    let a = c.args in
    let numbers = YieldsList-from_range 0 a.n a.n refl (omega arith) in
    let each = all_from_yields_List (in_range a.draws.now) _ _ c.all.result c.all.ensures.ran numbers (λ x b q k. search (rules, tests)) in
    rw (eq-eqb (length a.draws.now) (DRAWS_EACH * a.n) c.if-draws-n.true) (each ∙ range_below (in_range a.draws.now) a.n)

pub returns-else-draws-n : goal.returns-else-draws-n
unfolding draws_ok
returns-else-draws-n c =
    let a = c.args in
    rw (ne_eqb (length a.draws.now) (DRAWS_EACH * a.n) c.if-draws-n.false) refl
