use mathlib.Core.Path.{◌≡◌, refl, ◌∙◌}
use Prim.Native.Nat.{◌<◌}
use native.Mathlib.Omega.{arith}
use borrow.Author.Rules.{rules}
use lib.Seq.{get_or-take}
use lib.ListN.{length, drop, length-set, length-drop}
use Rattle.text.specs.Text.{SPACE, NUMBERS}
use Rattle.text.proofs.Lines.{number-ends, first_then, one_more, no_more}
use Rattle.text.proofs.put_numbers.Goals as goal

pub loop-n-init : goal.loop-n-init
loop-n-init c = (omega (arith, number-ends _ c.put_number-end.ensures), refl, λ n l p. p)

pub loop-n-preserved : goal.loop-n-preserved
loop-n-preserved c =
    let s = c.loop-n in
    let p = c.put_number-end-in-loop-n in
    let ns = c.args.numbers in
    let rest = drop 1 ns in
    let size : length ns ≡ NUMBERS = search rules in
    let six : length (drop 1 ns) ≡ 6 = simp length-drop (omega arith) in
    let more : s.end < length s.out = omega arith in
    let kept : length p.new.out ≡ length s.out = p.ensures.size ∙ length-set s.out s.end SPACE in (
      omega (arith, number-ends _ p.ensures),
      kept ∙ s.invariant.1,
      λ n l q. s.invariant.2 n l (one_more rest s.n-index s.end s.out more (omega arith) (rw (get_or-take 6 rest s.n-index 0 (omega arith)) at p.ensures) q),
    )

pub returns : goal.returns
returns c =
    let s = c.loop-n in
    let ns = c.args.numbers in
    let size : length ns ≡ NUMBERS = search rules in
    let six : length (drop 1 ns) ≡ 6 = simp length-drop (omega arith) in
    first_then ns (omega arith) c.put_number-end.ensures (s.invariant.2 _ _ (no_more (drop 1 ns) s.n-index s.end s.out (omega arith) (omega arith)))
