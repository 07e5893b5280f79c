use mathlib.Core.Path.{refl, ap, ◌∙◌}
use borrow.Author.Tests.{eq-eqb, ne_eqb}
use mathlib.Core.List.{List}
use Prim.Native.Nat.{ℕ}
use Rattle.trace_words.proofs.Lays.{lays-both, lays-whole}
use Rattle.trace_calls.specs.Shared.{exactly, stays}
use Rattle.trace_calls.specs.Cutters.{cutter_reported, ground_told}
use Rattle.trace_calls.proofs.cutters.reported.Goals as goal

pub returns-then-args-ne0 : goal.returns-then-args-ne0
unfolding cutter_reported exactly
returns-then-args-ne0 c = simp (ne_eqb _ _ c.if-args-ne0.true)

pub returns : goal.returns
unfolding cutter_reported exactly
returns c =
    let a = c.args in
    let g = c.ground_report-g in
    rw (eq-eqb _ _ c.if-args-ne0.false)
    (c.compared_with.ensures ∙ ap (λ (l : List ℕ). stays a.h a.current.now a.state.now a.res.now g.result.refusal l)
    (lays-whole refl (lays-both c.put_pair.ensures c.put_pair-2.ensures))
    ∙ ap (ground_told a.h a.args.now a.current.now a.state.now a.res.now) g.ensures)
