use mathlib.Core.Path.{◌≡◌, sym, ◌∙◌, ap, subst}
use mathlib.Core.Bool.{true, false}
use Prim.Native.Nat.{◌≤◌}
use borrow.Author.Tests.{eq-eqb, le-leb, lt-leb}
use Rattle.laws.specs.Lists.{all, any}
use Rattle.cutter_state.specs.WellFormed.{cells_ok, is_code, is_trail}
use Rattle.cutter_check.proofs.Codes.{codes-largest, line-largest}
use Rattle.cutter_check.proofs.cells_ok.Goals as goal

pub returns-then-most-gt-CB_TRAIL : goal.returns-then-most-gt-CB_TRAIL
unfolding cells_ok
returns-then-most-gt-CB_TRAIL c =
    let g = c.args.grid.now in
    let most = c.largest-most in
    let bad : all is_code g ≡ false = sym (codes-largest g) ∙ ap is_code (sym most.ensures) ∙ lt-leb _ _ c.if-most-gt-CB_TRAIL.true in
    simp (eq-eqb _ _ c.requires, bad)

pub returns : goal.returns
unfolding cells_ok
returns c =
    let g = c.args.grid.now in
    let most = c.largest-most in
    let codes : all is_code g ≡ true = sym (codes-largest g) ∙ ap is_code (sym most.ensures) ∙ le-leb _ _ c.if-most-gt-CB_TRAIL.false in
    let line : is_trail most.result ≡ any is_trail g = ap is_trail most.ensures ∙ line-largest g (subst (λ n. n ≤ 2) most.ensures c.if-most-gt-CB_TRAIL.false) in
    simp (eq-eqb _ _ c.requires, codes, c.rows_filled.ensures, c.columns_filled.ensures, line)
