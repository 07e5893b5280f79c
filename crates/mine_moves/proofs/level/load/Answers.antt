use Rattle.mine_rules.specs.Load.{loaded}
use Rattle.mine_moves.proofs.level.load.Goals as goal

pub returns : goal.returns
unfolding loaded
returns c = c.mine_of.ensures
