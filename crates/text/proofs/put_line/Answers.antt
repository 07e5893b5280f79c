use Rattle.text.specs.Text.{line_of}
use Rattle.text.proofs.Puts.{puts_none}
use Rattle.text.proofs.put_line.Goals as goal

pub returns-in-Nothing : goal.returns-in-Nothing
unfolding line_of
returns-in-Nothing c = let a = c.args in rw c.in-Nothing.is (puts_none a.at a.out.now)

pub returns-in-Numbers : goal.returns-in-Numbers
unfolding line_of
returns-in-Numbers c = rw c.in-Numbers.is c.put_numbers.ensures

pub returns-in-Refused : goal.returns-in-Refused
unfolding line_of
returns-in-Refused c = rw c.in-Refused.is c.put_refused.ensures
