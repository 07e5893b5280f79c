-- What a rule of Block Mine keeps of a well-formed state.
use Rattle.std.specs.Prelude.{◌≡◌}
use Rattle.mine_state.specs.declared.Mine.{Mine}
use Rattle.mine_state.specs.State.{purse, boulders}
use Rattle.mine_state.specs.WellFormed.{WellFormed}

-- from m to s: s is well formed, with m's coins in hand plus on the map, and m's boulders
pub record Kept (m s : Mine) : Type 0 where
  pub formed : WellFormed s
  pub coins : purse s ≡ purse m
  pub stones : boulders s ≡ boulders m
