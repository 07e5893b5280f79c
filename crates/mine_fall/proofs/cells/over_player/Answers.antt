use mathlib.Core.Path.{refl}
use native.Mathlib.Omega.{arith}
use borrow.Author.Tests.{eq-eqb, ne_eqb}
use Rattle.mine_rules.specs.Gravity.{over_player, rested}
use Rattle.mine_fall.proofs.cells.over_player.Goals as goal

pub returns-then-grid-i-eq-COIN : goal.returns-then-grid-i-eq-COIN
unfolding over_player rested
returns-then-grid-i-eq-COIN c = λ m. simp (c.if-marked.true, eq-eqb _ _ c.if-grid-i-eq-COIN.true) (refl, omega arith)

pub returns-then-marked : goal.returns-then-marked
unfolding over_player rested
returns-then-marked c = λ m. simp (c.if-marked.true, ne_eqb _ _ c.if-grid-i-eq-COIN.false) (refl, omega arith)

pub returns : goal.returns
unfolding over_player rested
returns c = λ m. simp c.if-marked.false (refl, omega arith)
