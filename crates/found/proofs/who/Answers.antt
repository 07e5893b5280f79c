use mathlib.Core.Path.{◌≡◌, ap, ◌∙◌}
use native.Mathlib.Omega.{arith}
use lib.ListN.{get_or}
use Rattle.found.specs.CodeTally.{counted}
use Rattle.found.proofs.Scan.{tally_turn, tally_end, tally-room}
use Rattle.found.proofs.who.Goals as goal

pub loop-e-preserved : goal.loop-e-preserved
loop-e-preserved g c =
    let here = g.T.Stands.stands c.args.x c.args.y in
    let i = c.loop-e.e-index in
    let m = c.loop-e.met in
    let e : c.count_in-met.result ≡ counted m (here (get_or c.args.list.now i c.e-item.result)) =
    c.count_in-met.ensures ∙ ap (counted m) c.stands_at.ensures ∙ ap (λ v. counted m (here v)) c.e-item.is in (
      rw e (tally-room m i _ c.loop-e.invariant.0),
      rw e (tally_turn here c.args.list.now m i c.e-item.result c.loop-e-test.true c.loop-e.invariant.1),
    )

pub returns : goal.returns
returns g c =
    let here = g.T.Stands.stands c.args.x c.args.y in
    c.told.ensures ∙ tally_end here c.args.list.now c.loop-e.met c.loop-e.e-index (omega arith) c.loop-e.invariant.1
