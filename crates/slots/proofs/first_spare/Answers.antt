use mathlib.Core.Bool.{Bool}
use mathlib.Core.Path.{sym, ap, ◌∙◌}
use borrow.Author.Tests.{not-true, not-false}
use Rattle.laws.proofs.Lists.{drop-one}
use lib.ListN.{drop_of_length-le}
use Rattle.refusal.specs.Faults.{spare_fault}
use Rattle.refusal.proofs.Faults.{spare_more, spare_found, fault_end}
use Rattle.slots.proofs.first_spare.Goals as goal

pub returns-then-ne : goal.returns-then-ne
returns-then-ne g c =
    let blank : g.row.T.Denot → Bool = λ a. g.T.PartialEq.eq a c.args.blank in
    let slot = c.index-slots-k in
    spare_found blank c.args.slots.now c.loop-k.k c.loop-k.invariant
    (drop-one c.args.slots.now c.loop-k.k slot.result c.loop-k-test.true)
    (ap blank (sym slot.is) ∙ not-true (blank slot.result) (sym c.ne.ensures ∙ c.if-ne.true))

pub loop-k-preserved : goal.loop-k-preserved
loop-k-preserved g c =
    let blank : g.row.T.Denot → Bool = λ a. g.T.PartialEq.eq a c.args.blank in
    let slot = c.index-slots-k in
    spare_more blank c.args.slots.now c.loop-k.k c.loop-k.invariant
    (drop-one c.args.slots.now c.loop-k.k slot.result c.loop-k-test.true)
    (ap blank (sym slot.is) ∙ not-false (blank slot.result) (sym c.ne.ensures ∙ c.if-ne.false))

pub returns : goal.returns
returns g c =
    fault_end (spare_fault (λ a. g.T.PartialEq.eq a c.args.blank)) c.args.slots.now c.loop-k.k c.loop-k.invariant
    (drop_of_length-le c.args.slots.now c.loop-k-test.false)
