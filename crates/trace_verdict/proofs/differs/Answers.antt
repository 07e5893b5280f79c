use native.Mathlib.Omega.{arith}
use mathlib.Core.Path.{◌≡◌, refl, ap, ◌∙◌}
use Rattle.std.specs.Prelude.{Some}
use Prim.Native.Nat.{ℕ}
use Rattle.trace_verdict.specs.Compare.{first_difference}
use Rattle.trace_verdict.proofs.Differ.{cut_right, cut_left}
use Rattle.trace_verdict.proofs.differs.Goals as goal

pub loop-i-init : goal.loop-i-init
unfolding first_difference
loop-i-init c = (omega arith, omega arith, refl)

pub returns-then-both-a : goal.returns-then-both-a
returns-then-both-a c =
    let s = c.loop-i in
    let x = c.args in
    let e : c.min-both.result ≡ s.i = omega arith in
    ap (λ (n : ℕ). Some n) e ∙ cut_right x.a.now x.b.now s.i s.invariant.2 (omega arith) (omega arith)

pub returns-then-both-b : goal.returns-then-both-b
returns-then-both-b c =
    let s = c.loop-i in
    let x = c.args in
    let e : c.min-both.result ≡ s.i = omega arith in
    ap (λ (n : ℕ). Some n) e ∙ cut_left x.a.now x.b.now s.i s.invariant.2 (omega arith) (omega arith)
