use mathlib.Core.Bool.{false, ◌&&◌}
use mathlib.Core.Path.{◌≡◌, refl, sym, ◌∙◌}
use Prim.Native.Nat.{◌+◌, ◌-◌}
use native.Mathlib.Omega.{arith}
use lib.Dec.{ltb}
use borrow.Author.Rules.{rules}
use borrow.Author.Tests.{lt-ltb, le-ltb}
use Rattle.mine_state.specs.declared.Mine.{Mine}
use Rattle.mine_apart.specs.CodeApart.{Stand}
use Rattle.mine_rules.specs.Gravity.{open_side, rolled}
use Rattle.mine_fall.specs.CodeFalls.{lent}
use Rattle.mine_fall.proofs.Lent.{is_open, open_inside}
use Rattle.mine_fall.proofs.cells.roll.Goals.{Joined-else-x-gt0, else-x-gt0-via-then-x-gt0+else-open_side, else-x-gt0-via-else-x-gt0}
use Rattle.mine_fall.proofs.cells.roll.Goals as goal

abbrev Past : Type 0
Past = Joined-else-x-gt0

not_left : (c : Past) (m : Mine) → Stand m c.args.spots.now c.args.player
    → (ltb 0 c.args.x && open_side (lent m c.args.grid.now c.args.falling.now) (c.args.x - 1) c.args.y) ≡ false
not_left c m s =
    elim c.else-x-gt0.branch [
      | else-x-gt0-via-then-x-gt0+else-open_side w ↦
          simp (lt-ltb _ _ w.if-x-gt0.true, is_open s c.args.grid.now c.args.falling.now (c.args.x - 1) c.args.y (sym w.open_side.ensures ∙ w.if-open_side.false))
      | else-x-gt0-via-else-x-gt0 w ↦ simp (le-ltb _ _ w.if-x-gt0.false)
    ]

pub returns-then-open_side : goal.returns-then-open_side
unfolding rolled
returns-then-open_side c =
    λ m s.
    let o = is_open s c.args.grid.now c.args.falling.now (c.args.x - 1) c.args.y
    (sym c.open_side.ensures ∙ c.if-open_side.true) in
    simp (lt-ltb _ _ c.if-x-gt0.true, o) (c.move_obj.ensures m)

pub move_obj-requires-then-open_side-2 : goal.move_obj-requires-then-open_side-2
move_obj-requires-then-open_side-2 c =
    let h = open_inside c.args.grid.now c.args.spots.now c.args.player (c.args.x + 1) c.args.y (c.args.y + 1)
    (sym c.open_side-else-x-gt0.ensures ∙ c.if-open_side-2.true) in
    search rules

pub returns-then-open_side-2 : goal.returns-then-open_side-2
unfolding rolled
returns-then-open_side-2 c =
    λ m s.
    let o = is_open s c.args.grid.now c.args.falling.now (c.args.x + 1) c.args.y
    (sym c.open_side-else-x-gt0.ensures ∙ c.if-open_side-2.true) in
    simp (not_left (goal.at.returns-then-open_side-2 c).Joined-else-x-gt0 m s, o) (c.move_obj-then-open_side-2.ensures m)

pub returns-else-open_side-2 : goal.returns-else-open_side-2
unfolding rolled
returns-else-open_side-2 c =
    λ m s.
    let o = is_open s c.args.grid.now c.args.falling.now (c.args.x + 1) c.args.y (sym c.open_side-else-x-gt0.ensures ∙ c.if-open_side-2.false) in
    simp (not_left (goal.at.returns-else-open_side-2 c).Joined-else-x-gt0 m s, o) (refl, omega arith)
