use borrow.Author.Rules.{rules}
use borrow.Author.Tests.{ne_eqb}
use Rattle.console_screens.specs.Heads.{state_bytes}
use Rattle.console_screens.proofs.heads.put_state.Goals as goal

pub returns-in-0 : goal.returns-in-0
unfolding state_bytes
returns-in-0 c = rw c.in-0.is c.put.ensures

pub returns-in-1 : goal.returns-in-1
unfolding state_bytes
returns-in-1 c = rw c.in-1.is c.put-in-1.ensures

pub returns-in-2 : goal.returns-in-2
unfolding state_bytes
returns-in-2 c = rw c.in-2.is c.put-in-2.ensures

pub returns-in-3 : goal.returns-in-3
unfolding state_bytes
returns-in-3 c = rw c.in-3.is c.put-in-3.ensures

pub returns-in-4 : goal.returns-in-4
unfolding state_bytes
returns-in-4 c = rw c.in-4.is c.put-in-4.ensures

pub returns-in_default : goal.returns-in_default
unfolding state_bytes
returns-in_default c =
    let s = c.args.stands in
    simp (
      ne_eqb s 0 (search rules),
      ne_eqb s 1 (search rules),
      ne_eqb s 2 (search rules),
      ne_eqb s 3 (search rules),
      ne_eqb s 4 (search rules),
    ) c.put-in_default.ensures
