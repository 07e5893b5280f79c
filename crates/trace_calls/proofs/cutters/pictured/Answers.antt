use native.Mathlib.Omega.{arith}
use mathlib.Core.Path.{◌≡◌, ap, ◌∙◌}
use borrow.Author.Tests.{eq-eqb, ne_eqb}
use mathlib.Core.List.{List}
use Prim.Native.Nat.{ℕ, ◌≤◌}
use lib.ListN.{length, drop}
use lib.Seq.{length-take-le, take_at}
use Rattle.cutter.specs.Picture.{picture_of}
use Rattle.trace_calls.specs.Shared.{exactly, stays, showed, stale_of, MOST}
use Rattle.trace_calls.specs.Cutters.{cutter_pictured}
use Rattle.trace_calls.proofs.Frames.{stale_long, stale_part}
use Rattle.trace_calls.proofs.cutters.pictured.Goals as goal

pub returns-then-args-ne2 : goal.returns-then-args-ne2
unfolding cutter_pictured exactly
returns-then-args-ne2 c = simp (ne_eqb _ _ c.if-args-ne2.true)

pub returns : goal.returns
unfolding cutter_pictured exactly
returns c =
    let a = c.args in
    let w = c.word-n in
    let d = c.stale-frame in
    let v = c.render-no in
    let within : w.result ≤ MOST = omega (arith, w.ensures.fits) in
    let whole : length v.new.frame ≡ w.result = c.frame-2-1.given
    ∙ length-take-le w.result d.result (omega (arith, within, stale_long d.result d.ensures)) in
    let picture : (v.result, v.new.frame) ≡ picture_of a.c _ = v.ensures
    ∙ ap (picture_of a.c) (stale_part d.result d.ensures w.result within ∙ ap stale_of w.ensures.is) in
    rw (eq-eqb _ _ c.if-args-ne2.false)
    (c.compared_with.ensures ∙ ap (λ (l : List ℕ). stays a.h a.current.now a.state.now a.res.now v.result l)
    (take_at v.new.frame (drop w.result d.result) w.result whole) ∙ ap (showed a.h a.current.now a.state.now a.res.now) picture)
