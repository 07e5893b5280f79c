use Rattle.bits.proofs.Masks.{cell_in, cell_out}
use Rattle.bits.proofs.cell_mask.Goals as goal

pub returns-then-cx-x : goal.returns-then-cx-x
returns-then-cx-x c = let a = c.args in cell_in a.cx a.cy a.p a.x c.if-cx-x.true

pub returns : goal.returns
returns c = let a = c.args in cell_out a.cx a.cy a.p a.x c.if-cx-x.false
