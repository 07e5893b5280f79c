use mathlib.Core.Path.{◌≡◌, ap, subst, ◌∙◌}
use borrow.Author.Tests.{lt-ltb, le-ltb}
use mathlib.Core.List.{List}
use Prim.Native.Nat.{ℕ}
use lib.ListN.{drop}
use Rattle.refusal.specs.Refusal.{NONE}
use Rattle.frame.specs.Frame.{page_of}
use Rattle.trace_words.specs.Numbers.{PLACE}
use Rattle.trace_questions.proofs.Parts.{rest-is}
use Rattle.trace_calls.specs.Shared.{at_least, stays}
use Rattle.trace_calls.specs.Either.{page_told}
use Rattle.trace_calls.proofs.shared.page.Goals as goal

pub returns-then-args-lt-PLACE : goal.returns-then-args-lt-PLACE
unfolding page_told at_least
returns-then-args-lt-PLACE c = simp (lt-ltb _ _ c.if-args-lt-PLACE.true)

pub returns : goal.returns
unfolding page_told at_least
returns c =
    let a = c.args in
    let l = a.args.now in
    let w = c.word-number in
    let g = c.page-told in
    let part = subst (λ (x : List ℕ). g.result.now ≡ page_of x w.result) (rest-is PLACE l) g.ensures in
    rw (le-ltb _ _ c.if-args-lt-PLACE.false)
    (c.compared_with.ensures ∙ ap (stays a.h a.current.now a.state.now a.res.now NONE) (part ∙ ap (page_of (drop PLACE l)) w.ensures.is))
