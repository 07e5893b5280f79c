use native.Mathlib.Omega.{arith}
use mathlib.Core.Path.{◌≡◌, ap, ap₂, subst, ◌∙◌}
use borrow.Author.Tests.{lt-ltb, le-ltb}
use mathlib.Core.List.{List}
use Prim.Native.Nat.{ℕ, ◌+◌, ◌-◌, ◌<◌, ◌≤◌}
use lib.ListN.{length, take, drop}
use Rattle.cutter_pass.specs.Pass.{pass_at, marks_of}
use Rattle.trace_questions.proofs.Parts.{rest-is}
use Rattle.trace_calls.specs.Shared.{at_least, cutter_made}
use Rattle.trace_calls.specs.Cutters.{BEFORE_KEYS, key_count, cutter_passed, turned}
use Rattle.trace_calls.proofs.cutters.passed.Goals as goal

pub returns-then-args-lt-BEFORE_KEYS : goal.returns-then-args-lt-BEFORE_KEYS
unfolding cutter_passed at_least
returns-then-args-lt-BEFORE_KEYS c = simp (lt-ltb _ _ c.if-args-lt-BEFORE_KEYS.true)

pub returns-then-args-at : goal.returns-then-args-at
unfolding cutter_passed at_least
returns-then-args-at c =
    let a = c.args in
    let n = c.word-n in
    let short : length a.args.now < BEFORE_KEYS + key_count a.h a.args.now a.current.now a.state.now a.res.now = rw n.ensures.is at c.if-args-at.true in
    simp (le-ltb _ _ c.if-args-lt-BEFORE_KEYS.false, lt-ltb _ _ short)

pub returns : goal.returns
unfolding cutter_passed at_least
returns c =
    let a = c.args in
    let l = a.args.now in
    let w = c.word-time in
    let n = c.word-n in
    let t = c.pass_marks-t in
    let long : BEFORE_KEYS + key_count a.h a.args.now a.current.now a.state.now a.res.now ≤ length l = rw n.ensures.is at c.if-args-at.false in
    let count : BEFORE_KEYS + n.result - BEFORE_KEYS ≡ n.result = omega arith in
    let keys : t.result ≡ pass_at a.c (take n.result (drop BEFORE_KEYS l)) (take (length l - (BEFORE_KEYS + n.result)) (drop (BEFORE_KEYS + n.result) l))
    w.result a.p.first a.p.second = subst
    (λ (k : ℕ). t.result ≡ pass_at a.c (take k (drop BEFORE_KEYS l)) (take (length l - (BEFORE_KEYS + n.result)) (drop (BEFORE_KEYS + n.result) l)) w.result
    a.p.first a.p.second) count t.ensures in
    let draws : t.result ≡ pass_at a.c (take n.result (drop BEFORE_KEYS l)) (drop (BEFORE_KEYS + n.result) l) w.result a.p.first a.p.second = subst
    (λ (d : List ℕ). t.result ≡ pass_at a.c (take n.result (drop BEFORE_KEYS l)) d w.result a.p.first a.p.second) (rest-is (BEFORE_KEYS + n.result) l) keys in
    simp (le-ltb _ _ c.if-args-lt-BEFORE_KEYS.false, le-ltb _ _ long)
    (c.cutter_made.ensures
    ∙ ap (λ (k : ℕ). cutter_made a.h a.current.now a.state.now a.res.now t.result.passed.refusal k t.result.passed.game (marks_of t.result)
    t.result.passed.searched t.result.passed.walked) c.number.ensures
    ∙ ap (turned a.h a.args.now a.current.now a.state.now a.res.now) (draws ∙ ap₂ (λ (k m : ℕ). pass_at a.c (take k (drop BEFORE_KEYS l))
    (drop (BEFORE_KEYS + k) l) m a.p.first a.p.second) n.ensures.is w.ensures.is))
