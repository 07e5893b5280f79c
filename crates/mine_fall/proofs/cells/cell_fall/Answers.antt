use mathlib.Core.Path.{refl, sym, ◌∙◌}
use native.Mathlib.Omega.{arith}
use borrow.Author.Tests.{eq-eqb, ne_eqb, lt-leb, le-leb}
use Rattle.mine_rules.specs.Gravity.{cell_fall, over_other, rested}
use Rattle.mine_fall.specs.CodeFalls.{lent}
use Rattle.mine_fall.proofs.Lent.{cell_rests}
use Rattle.mine_fall.proofs.cells.cell_fall.Goals as goal

pub returns-then-not-is_object : goal.returns-then-not-is_object
unfolding cell_fall
returns-then-not-is_object c = λ m s. simp (sym c.is_object.ensures ∙ c.if-not-is_object.true) (refl, omega arith)

pub returns-then-by-ge-H : goal.returns-then-by-ge-H
unfolding cell_fall rested
returns-then-by-ge-H c = λ m s. simp (sym c.is_object.ensures ∙ c.if-not-is_object.false, le-leb _ _ c.if-by-ge-H.true) (refl, omega arith)

pub returns-then-below-eq-EMPTY : goal.returns-then-below-eq-EMPTY
unfolding cell_fall
returns-then-below-eq-EMPTY c =
    λ m s.
    let o = sym c.is_object.ensures ∙ c.if-not-is_object.false in
    simp (o, lt-leb _ _ c.if-by-ge-H.false, eq-eqb _ _ c.if-below-eq-EMPTY.true) (c.over_empty.ensures m s)

pub returns-then-is_object : goal.returns-then-is_object
unfolding cell_fall over_other rested
returns-then-is_object c =
    λ m s.
    let o = sym c.is_object.ensures
    ∙ c.if-not-is_object.false in
    let u = sym c.is_object-2.ensures ∙ c.if-is_object.true in
    simp (o, lt-leb _ _ c.if-by-ge-H.false, ne_eqb _ _ c.if-below-eq-EMPTY.false, u)
    (c.roll.ensures m s)

pub returns-else-is_object : goal.returns-else-is_object
unfolding rested
returns-else-is_object c =
    λ m s.
    let a = c.args in
    let o = sym c.is_object.ensures ∙ c.if-not-is_object.false in
    let u = sym c.is_object-2.ensures ∙ c.if-is_object.false in (
      cell_rests (lent m a.grid.now a.falling.now) a.x a.y o (lt-leb _ _ c.if-by-ge-H.false)
          (ne_eqb _ _ c.if-below-eq-EMPTY.false) u,
      omega arith,
    )
