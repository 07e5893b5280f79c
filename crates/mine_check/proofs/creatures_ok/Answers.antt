use mathlib.Core.Bool.{true}
use mathlib.Core.List.{List}
use mathlib.Core.Path.{◌≡◌, sym, ap, ◌∙◌}
use Prim.Native.Nat.{ℕ, ◌+◌, ◌-◌}
use native.Mathlib.Omega.{arith}
use lib.ListN.{length, take, drop, length-drop, drop_of_length-le}
use lib.Seq.{take_all}
use borrow.Author.Rules.{rules}
use borrow.Author.Tests.{le-leb}
use Rattle.laws.specs.Lists.{all, any}
use Rattle.laws.proofs.Lists.{mapped, drop-one}
use Rattle.mine_state.specs.declared.Enemy.{Enemy}
use Rattle.mine_state.specs.State.{MAX_ENEMIES, blank_slot}
use Rattle.mine_state.specs.WellFormed.{is_blank}
use Rattle.mine_check.proofs.Creatures.{blank_is, right, right-more, right-meets, right_end, answer}
use Rattle.mine_check.proofs.creatures_ok.Goals as goal

-- those after i, as the slice has them
after : (them : List Enemy) (i : ℕ) → take (length them - (i + 1)) (drop (i + 1) them) ≡ drop (i + 1) them
after them i = take_all (length them - (i + 1)) (drop (i + 1) them) (simp length-drop (omega arith))

pub returns-then-met : goal.returns-then-met
returns-then-met c =
    let them = take c.args.n c.args.enemies in
    let i = c.loop-i.i in
    answer _ _ _ _ (le-leb _ _ c.if-n-gt-MAX_ENEMIES.false)
    (right-meets c.args.grid.now them i c.loop-i.invariant
    (drop-one them i blank_slot c.loop-i-test.true)
    (sym (c.met.ensures ∙ ap (any _) (after them i)) ∙ c.if-met.true))

pub loop-i-preserved : goal.loop-i-preserved
loop-i-preserved c =
    let them = take c.args.n c.args.enemies in
    let i = c.loop-i.i in
    right-more c.args.grid.now them i c.loop-i.invariant
    (drop-one them i blank_slot c.loop-i-test.true)
    (sym c.creature_ok.ensures ∙ c.if-not-creature_ok.false)
    (sym (c.met.ensures ∙ ap (any _) (after them i)) ∙ c.if-met.false)

pub returns : goal.returns
returns c =
    let l = c.args.enemies in
    let n = c.args.n in
    let them = take n l in
    let eight : length l ≡ MAX_ENEMIES = search (rules, mapped) in
    let rest : take (MAX_ENEMIES - n) (drop n l) ≡ drop n l = take_all (MAX_ENEMIES - n) (drop n l) (simp length-drop (omega arith)) in
    let each : true ≡ right c.args.grid.now them =
    right_end c.args.grid.now them c.loop-i.i c.loop-i.invariant (drop_of_length-le them c.loop-i-test.false) in
    let spare : c.all_blank.result ≡ all is_blank (take (MAX_ENEMIES - n) (drop n l)) =
    c.all_blank.ensures ∙ ap (λ blank. all blank (take (MAX_ENEMIES - n) (drop n l))) blank_is in
    spare ∙ ap (all is_blank) rest ∙ answer _ _ _ _ (le-leb _ _ c.if-n-gt-MAX_ENEMIES.false) each
