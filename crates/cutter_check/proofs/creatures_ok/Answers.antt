use mathlib.Core.Path.{◌≡◌, ap, ◌∙◌}
use Prim.Native.Nat.{◌-◌}
use native.Mathlib.Omega.{arith}
use lib.ListN.{length, take, drop, length-drop}
use lib.Seq.{take_all}
use borrow.Author.Rules.{rules}
use borrow.Author.Tests.{le-leb}
use Rattle.laws.proofs.Lists.{mapped}
use Rattle.cutter_ground.specs.Movers.{MAX_ENEMIES}
use Rattle.laws.specs.Lists.{all}
use Rattle.cutter_state.specs.WellFormed.{is_blank}
use Rattle.cutter_check.proofs.Blank.{blank_is}
use Rattle.cutter_check.proofs.creatures_ok.Goals as goal

pub returns : goal.returns
returns c =
    let l = c.args.enemies in
    let n = c.args.count in
    let full : length l ≡ MAX_ENEMIES = search (rules, mapped) in
    let rest : take (MAX_ENEMIES - n) (drop n l) ≡ drop n l = take_all (MAX_ENEMIES - n) (drop n l) (simp length-drop (omega arith)) in
    let spare : c.all_blank.result ≡ all is_blank (take (MAX_ENEMIES - n) (drop n l)) =
    c.all_blank.ensures ∙ ap (λ blank. all blank (take (MAX_ENEMIES - n) (drop n l))) blank_is in
    simp (c.movers_ok.ensures, spare, rest, le-leb _ _ c.if-count-gt-MAX_ENEMIES.false)
