use Rattle.std.proofs.Common.{rules, arith, ap, ◌∙◌}
use Rattle.std.proofs.iter.runs.Made.{chains}
use Rattle.std.proofs.lemmas.Iterator.{YieldsList-from_slice}
use Rattle.std.proofs.lemmas.Iterator.Adapters.{serves_from_places}
use lib.Dec.{eqb}
use Rattle.laws.proofs.Lists.{count-is}
use Rattle.cutter_ground.specs.CodeVisit.{SEEN}
use Rattle.cutter_ground.specs.Movers.{place_of}
use Rattle.cutter_capture.specs.CodeSteps.{mark_of}
use Rattle.cutter_capture.proofs.Herds.{placed_at}
use Rattle.cutter_capture.proofs.standing.Goals as goal

pub count-requires-clause-can : goal.count-requires-clause-can
count-requires-clause-can c =
    let es = c.args.enemies.now in (
      tt,
      tt,
      serves_from_places (YieldsList-from_slice es cc) (λ x q r. search rules)
          (λ x k h e y i _ _ _ _ _ cell_of _. omega (arith, cell_of.ensures, ap (λ b. place_of b.now) i, ap place_of e, placed_at c.requires.1 k x.now h)),
    )

pub returns : goal.returns
returns c = search (rules, chains) ∙ count-is (λ m. eqb (mark_of c.args.seen.now m) SEEN) c.args.enemies.now
