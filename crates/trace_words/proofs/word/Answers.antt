use native.Mathlib.Omega.{arith}
use borrow.Author.Rules.{rules}
use mathlib.Core.Path.{◌≡◌, ap, ◌∙◌}
use Prim.Native.Nat.{◌+◌, ◌-◌, ◌*◌, ◌<◌}
use Rattle.trace_words.specs.Numbers.{byte_at}
use Rattle.trace_words.proofs.Bytes.{word_more, word_none, pow_up, pow_positive, below_more}
use Rattle.trace_words.proofs.word.Goals as goal

pub loop-i-init : goal.loop-i-init
loop-i-init c = (omega arith, word_none c.args.k c.args.at c.args.bytes.now, pow_positive c.args.k c.args.at)

pub overflow_mul-n : goal.overflow_mul-n
overflow_mul-n c = let s = c.loop-i in let a = c.args in
    omega (arith, s.invariant.2, c.requires.narrow, pow_up (a.at + a.k - s.i) (omega (arith, c.requires.narrow)))

pub overflow_add-n : goal.overflow_add-n
overflow_add-n c = let s = c.loop-i in let a = c.args in
    omega (arith, s.invariant.2, c.requires.narrow, c.from.type_inv, pow_up (a.at + a.k - s.i) (omega (arith, c.requires.narrow)))

pub loop-i-preserved : goal.loop-i-preserved
loop-i-preserved c =
    let s = c.loop-i in
    let a = c.args in
    let b : byte_at (s.i - 1) a.bytes.now < 256 = search rules in
    let e : c.from.result ≡ byte_at (s.i - 1) a.bytes.now = search rules in (
      omega arith,
      ap (λ x. s.n * 256 + x) e ∙ word_more a.k a.at s.i a.bytes.now (omega arith) (omega arith) s.invariant.1,
      below_more a.k a.at s.i s.n _ (omega arith) (omega arith) s.invariant.2 (omega (arith, b, e)),
    )
