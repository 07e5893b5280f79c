use mathlib.Core.List.{List}
use mathlib.Core.Path.{subst, ◌∙◌}
use Prim.Native.Nat.{ℕ}
use Rattle.text.specs.CodePuts.{Puts}
use Rattle.text.proofs.Decimal.{digits_are}
use Rattle.text.proofs.put_number.Goals as goal

pub returns : goal.returns
returns c =
    let d = c.decimal-k in
    subst (λ (t : List ℕ). Puts t c.args.at c.args.out.now c.put.result c.put.new.out)
    (d.ensures.digits ∙ digits_are d.result c.args.n c.ranges.n.fits d.ensures.len) c.put.ensures
