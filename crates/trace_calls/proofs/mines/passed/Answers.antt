use mathlib.Core.Path.{◌≡◌, ap, subst, ◌∙◌}
use borrow.Author.Tests.{lt-ltb, le-ltb}
use mathlib.Core.List.{List}
use Prim.Native.Nat.{ℕ}
use lib.ListN.{drop}
use Rattle.mine_pass.specs.Pass.{pass_at, marks_of}
use Rattle.trace_words.specs.Numbers.{MARK}
use Rattle.trace_questions.proofs.Parts.{rest-is}
use Rattle.trace_calls.specs.Shared.{at_least, mine_told}
use Rattle.trace_calls.specs.Mines.{mine_passed, turned}
use Rattle.trace_calls.proofs.mines.passed.Goals as goal

pub returns-then-args-lt-MARK : goal.returns-then-args-lt-MARK
unfolding mine_passed at_least
returns-then-args-lt-MARK c = simp (lt-ltb _ _ c.if-args-lt-MARK.true)

pub returns : goal.returns
unfolding mine_passed at_least
returns c =
    let a = c.args in
    let w = c.word-time in
    let t = c.pass_marks-t in
    let keys : t.result ≡ pass_at a.m (drop MARK a.args.now) w.result a.p.first a.p.second = subst
    (λ (l : List ℕ). t.result ≡ pass_at a.m l w.result a.p.first a.p.second) (rest-is MARK a.args.now) t.ensures in
    rw (le-ltb _ _ c.if-args-lt-MARK.false)
    (c.mine_told.ensures
    ∙ ap (λ (n : ℕ). mine_told a.h a.current.now a.state.now a.res.now t.result.passed.refusal n t.result.passed.game (marks_of t.result))
    c.number.ensures
    ∙ ap (turned a.h a.args.now a.current.now a.state.now a.res.now) (keys ∙ ap (λ (n : ℕ). pass_at a.m (drop MARK a.args.now) n a.p.first
    a.p.second) w.ensures.is))
