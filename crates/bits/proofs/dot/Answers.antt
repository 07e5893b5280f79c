use Rattle.bits.proofs.Masks.{dot_in, dot_out}
use Rattle.bits.proofs.dot.Goals as goal

pub returns-then-x0-x : goal.returns-then-x0-x
returns-then-x0-x c = let a = c.args in dot_in a.x0 a.y0 a.p a.x c.if-x0-x.true

pub returns : goal.returns
returns c = let a = c.args in dot_out a.x0 a.y0 a.p a.x c.if-x0-x.false
