use mathlib.Core.Bool.{cond}
use mathlib.Core.List.{List}
use mathlib.Core.Path.{◌≡◌, refl, sym, ap, ◌∙◌}
use Prim.Native.Nat.{ℕ, zero, suc, max}
use native.Mathlib.Omega.{arith}
use lib.Dec.{eqb}
use borrow.Author.Tests.{lt-ltb, le-ltb}
use Rattle.std.proofs.Common.{rules}
use Rattle.laws.proofs.Table.{table_none}
use Rattle.mine_state.specs.Change.{with_grid}
use Rattle.mine_rules.specs.Load.{unread, read_from}
use Rattle.mine_moves.proofs.Reading.{read_player, read_creature, read_tile, read_done, asked}
use Rattle.mine_moves.proofs.level.mine_of.Goals.{in-80, in-69+then-count-lt-MAX_ENEMIES, in-69+else-count-lt-MAX_ENEMIES, in_default}
use Rattle.mine_moves.proofs.level.mine_of.Goals as goal

one_least : (q : ℕ) → cond (eqb q 0) 1 q ≡ max q 1
one_least zero = refl
one_least (suc n) = grind arith

pub loop-at-init : goal.loop-at-init
loop-at-init c = ap (λ (g : List ℕ). read_from c.args.text.now 0 (with_grid unread g)) (sym (table_none _ _))

pub loop-at-preserved : goal.loop-at-preserved
loop-at-preserved c =
    let s = c.loop-at in
    let text = c.args.text.now in
    let h = c.loop-at-test.true in
    elim c.match-c.branch [
      | in-80 w ↦ rw (w.px-is, w.py-is, w.enemies-is, w.count-is) (read_player text s.at s.px s.py s.enemies s.count s.invariant h w.in-80.is)
      | in-69+then-count-lt-MAX_ENEMIES w ↦ rw (w.px-is, w.py-is, w.enemies-is, w.count-is)
          (read_creature text s.at s.px s.py s.enemies s.count s.invariant h w.in-69.is (simp (lt-ltb _ _ w.if-count-lt-MAX_ENEMIES.true)))
      | in-69+else-count-lt-MAX_ENEMIES w ↦ rw (w.px-is, w.py-is, w.enemies-is, w.count-is)
          (read_creature text s.at s.px s.py s.enemies s.count s.invariant h w.in-69.is (simp (le-ltb _ _ w.if-count-lt-MAX_ENEMIES.false)))
      | in_default w ↦ rw (w.px-is, w.py-is, w.enemies-is, w.count-is)
          (read_tile text s.at s.px s.py s.enemies s.count s.invariant h (search rules) (search rules))
    ]

pub returns : goal.returns
returns c =
    let s = c.loop-at in
    let text = c.args.text.now in
    let e = read_done text s.at s.px s.py s.enemies s.count s.invariant (omega arith) c.tiles_of-grid.ensures in
    asked text _ c.coin_count.result _ e c.coin_count.ensures.0 (one_least _ ∙ sym c.max-needed.ensures)
