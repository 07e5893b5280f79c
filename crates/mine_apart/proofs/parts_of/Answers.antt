use mathlib.Core.Bool.{cond}
use mathlib.Core.List.{List, map}
use mathlib.Core.Path.{◌≡◌, sym, ◌∙◌}
use Prim.Native.Nat.{ℕ, ◌<◌}
use native.Mathlib.Omega.{arith}
use lib.Dec.{ltb}
use lib.ListN.{length, get_or, length-set, length-map, get_or-map}
use borrow.Author.Rules.{rules}
use Rattle.laws.proofs.Lists.{mapped, fill_more, fill_end}
use Rattle.mine_state.specs.declared.Enemy.{Enemy}
use Rattle.mine_state.specs.State.{AREA, MAX_ENEMIES, blank_slot}
use Rattle.mine_apart.specs.CodeApart.{spot_of, dir_of, spots_from}
use Rattle.mine_apart.proofs.Places.{spot_told, length_spots}
use Rattle.mine_apart.proofs.parts_of.Goals as goal

stored : (n : ℕ) (es : List Enemy) (i : ℕ) {r : ℕ} → i < length es → r ≡ cond (ltb i n) (spot_of (get_or es i blank_slot)) AREA → r ≡ get_or (spots_from n es) i 0
stored n es i h e = e ∙ sym (spot_told n es i h)

pub loop-i-preserved : goal.loop-i-preserved
loop-i-preserved c =
    let es = c.args.enemies in
    let n = c.args.count in
    let i = c.loop-i.i in
    let v = c.loop-i.invariant in
    let eight : length es ≡ MAX_ENEMIES = search (rules, mapped) in
    let h : i < MAX_ENEMIES = c.loop-i-test.true in
    let spots = fill_more c.loop-i.spots (spots_from n es) i c.spot_or.result 0 (omega (arith, v.0)) (omega (arith, length_spots n es)) v.2
    (stored n es i (omega arith) c.spot_or.ensures) in
    let dirs = fill_more c.loop-i.dirs (map dir_of es) i (get_or es i blank_slot).dir 0 (omega (arith, v.1)) (simp length-map (omega arith)) v.3
    (sym (get_or-map dir_of es i blank_slot)) in
    (simp length-set v.0, simp length-set v.1, spots, dirs)

pub returns : goal.returns
returns c =
    let es = c.args.enemies in
    let n = c.args.count in
    let v = c.loop-i.invariant in
    let eight : length es ≡ MAX_ENEMIES = search (rules, mapped) in
    let e : c.loop-i.i ≡ MAX_ENEMIES = omega (arith, c.loop-i.auto.i-end, c.loop-i-test.false) in
    let spots = fill_end c.loop-i.spots (spots_from n es) MAX_ENEMIES v.0 (length_spots n es ∙ eight) (rw e at v.2) in
    let dirs = fill_end c.loop-i.dirs (map dir_of es) MAX_ENEMIES v.1 (length-map es dir_of ∙ eight) (rw e at v.3) in
    rw (spots, dirs)
