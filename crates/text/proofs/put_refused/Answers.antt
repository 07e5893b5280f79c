use mathlib.Core.Path.{sym}
use native.Mathlib.Omega.{arith}
use Rattle.text.specs.Text.{refused_line}
use Rattle.text.proofs.Puts.{puts-both}
use Rattle.text.proofs.Lines.{number-ends}
use Rattle.text.proofs.put_refused.Goals as goal

pub put_place-requires : goal.put_place-requires
put_place-requires c =
    let n = c.put_number-end in
    omega (arith, number-ends _ n.ensures, n.ensures.size, c.put-word.ensures.size, c.put-word.ensures.ends, c.requires)

pub returns : goal.returns
unfolding refused_line
returns c = rw (sym c.number.ensures) (puts-both c.put-word.ensures (puts-both c.put_number-end.ensures c.put_place.ensures))
