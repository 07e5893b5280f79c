use borrow.Author.Tests.{lt-ltb, le-ltb}
use Rattle.mine_state.specs.State.{empty_at}
use Rattle.mine_check.proofs.empty_at.Goals as goal

pub returns-then-x-ge-W : goal.returns-then-x-ge-W
unfolding empty_at
returns-then-x-ge-W c = simp (le-ltb _ _ c.if-x-ge-W.true)

pub returns-then-y-ge-H : goal.returns-then-y-ge-H
unfolding empty_at
returns-then-y-ge-H c = simp (lt-ltb _ _ c.if-x-ge-W.false, le-ltb _ _ c.if-y-ge-H.true)

pub returns : goal.returns
unfolding empty_at
returns c = simp (lt-ltb _ _ c.if-x-ge-W.false, lt-ltb _ _ c.if-y-ge-H.false)
