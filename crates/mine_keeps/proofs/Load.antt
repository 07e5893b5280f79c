-- The loaded mine is well formed. Assumes nothing.
use Rattle.mine_state.specs.WellFormed.{WellFormed}
use Rattle.mine_state.proofs.Facts.{facts}
use Rattle.mine_rules.specs.Load.{loaded}
use Rattle.mine_rules.proofs.Start.{start}

pub load-formed : WellFormed loaded
load-formed = facts loaded start.well
