-- Block Mine's accounts: coins and boulders over any list of public calls, with any arguments, refused ones too.
use Rattle.refusal.specs.Refusal.{number_given}
use Rattle.std.specs.Prelude.{true, List, ◌≡◌, ℕ}
use Rattle.laws.specs.Lists.{all}
use Rattle.pace.specs.declared.Pace.{Pace}
use Rattle.mine_state.specs.declared.Mine.{Mine}
use Rattle.mine_state.specs.State.{purse, boulders}
use Rattle.mine_state.specs.WellFormed.{WellFormed}
use Rattle.mine_rules.specs.Load.{loaded}
use Rattle.mine_keeps.specs.Kept.{Kept}
use Rattle.mine_pass.specs.Pass.{pass_at}
use Rattle.mine.specs.Calls.{move_call, gravity_call, tick_call}
use Rattle.mine.specs.Turn.{pass_of}
use Rattle.games.specs.MineCalls.{MineCall, Play, after, plays}

-- from the loaded mine: well formed, 38 coins in hand plus on the map, 17 boulders
pub record Account (m : Mine) : Type 0 where
  pub formed : WellFormed m
  pub coins : purse m ≡ 38
  pub stones : boulders m ≡ 17

pub record MineAccounts : Type 0 where
  -- after any calls from the loaded mine, whatever the record's marks
  pub from_loaded : (pace : Pace) (calls : List MineCall) → Account (after (record { game = loaded; pace = pace }) calls).game
  -- and of any well-formed start the same totals stay, until the mine is loaded
  pub from_any : (p : Play) (calls : List MineCall) → WellFormed p.game → all plays calls ≡ true → Kept p.game (after p calls).game

-- every state given without a refusal is well formed, whatever state came
pub record MineFormed : Type 0 where
  pub load : WellFormed loaded
  pub move : (m : Mine) (dir : ℕ) → number_given (move_call m dir).refusal ≡ 0 → WellFormed (move_call m dir).game
  pub gravity : (m : Mine) → number_given (gravity_call m).refusal ≡ 0 → WellFormed (gravity_call m).game
  pub tick : (m : Mine) → number_given (tick_call m).refusal ≡ 0 → WellFormed (tick_call m).game
  pub pass : (m : Mine) (keys : List ℕ) (time : ℕ) (pace : Pace) → number_given (pass_of m keys time pace).0.refusal ≡ 0 → WellFormed (pass_of m keys time pace).0.game
  pub pass_marks : (m : Mine) (keys : List ℕ) (time first second : ℕ) → number_given (pass_at m keys time first second).passed.refusal ≡ 0
      → WellFormed (pass_at m keys time first second).passed.game
