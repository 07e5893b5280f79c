use borrow.Author.Tests.{ne_eqb}
use Rattle.trace_calls.specs.Either.{either_call, on_either}
use Rattle.trace_calls.proofs.Numbered.{either_arm}
use Rattle.trace_calls.proofs.shared.on_either.Goals as goal

pub returns-in-1 : goal.returns-in-1
unfolding either_call
returns-in-1 c = either_arm _ _ _ _ _ c.in-1.is _ c.load.ensures

pub returns-in-7 : goal.returns-in-7
unfolding either_call
returns-in-7 c = either_arm _ _ _ _ _ c.in-7.is _ c.mine_asked.ensures

pub returns-in-17 : goal.returns-in-17
unfolding either_call
returns-in-17 c = either_arm _ _ _ _ _ c.in-17.is _ c.new_round.ensures

pub returns-in-26 : goal.returns-in-26
unfolding either_call
returns-in-26 c = either_arm _ _ _ _ _ c.in-26.is _ c.mover_asked.ensures

pub returns-in-33 : goal.returns-in-33
unfolding either_call
returns-in-33 c = either_arm _ _ _ _ _ c.in-33.is _ c.page.ensures

pub returns-in_default : goal.returns-in_default
unfolding on_either either_call
returns-in_default c = let n = c.in_default.in_default-own.rest in simp (ne_eqb _ _ n.0.0.0.0.1, ne_eqb _ _ n.0.0.0.1, ne_eqb _ _ n.0.0.1, ne_eqb _ _ n.0.1, ne_eqb _ _ n.1)
