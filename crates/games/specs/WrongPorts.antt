-- Ports that break the promises, shown on Block Mine's move and Block Cutter's step.
use Rattle.refusal.specs.Refusal.{number_given}
use Rattle.std.specs.Prelude.{◌≡◌, ℕ, ◌+◌}
use Rattle.mine_state.specs.declared.Mine.{Mine}
use Rattle.mine_state.specs.State.{purse}
use Rattle.mine_state.specs.WellFormed.{WellFormed}
use Rattle.mine_rules.specs.Load.{loaded}
use Rattle.mine.specs.declared.calls.MineAnswer.{MineAnswer}
use Rattle.mine.specs.Calls.{move_call}
use Rattle.cutter_state.specs.declared.Cutter.{Cutter}
use Rattle.cutter_state.specs.WellFormed as WF
use Rattle.cutter_keeps.specs.Steps.{step_claims}
use Rattle.cutter.specs.declared.calls.CutterAnswer.{CutterAnswer}
use Rattle.cutter.specs.Calls.{step_call}
use Rattle.cutter_state.specs.State.{claimed_in}

-- no port of the move that keeps the promise does one of these
pub record WrongMove (port : Mine → ℕ → MineAnswer) : Type 0 where
  pub refuses_always : ((m : Mine) (dir : ℕ) → number_given (port m dir).refusal ≡ 0 → ⊥) → ⊥
  pub loaded_always : ((m : Mine) (dir : ℕ) → (port m dir).game ≡ loaded) → ⊥
  pub does_nothing : ((m : Mine) (dir : ℕ) → (port m dir).game ≡ m) → ⊥
  -- plays a first call and idles at the second
  pub idles_then : ((m : Mine) (a b : ℕ) → (port (port m a).game b).game ≡ (port m a).game) → ⊥
  -- plays on one state, as the loaded one, and idles on every other
  pub idles_elsewhere : (s : Mine) → ((m : Mine) (dir : ℕ) → (m ≡ s → ⊥) → (port m dir).game ≡ m) → ⊥
  pub invents_a_coin : (m : Mine) (dir : ℕ) → WellFormed m → (purse (port m dir).game ≡ purse m → ⊥) → ⊥

-- and none of the step
pub record WrongStep (port : Cutter → CutterAnswer) : Type 0 where
  pub refuses_always : ((c : Cutter) → number_given (port c).refusal ≡ 0 → ⊥) → ⊥
  pub one_state_always : (s : Cutter) → ((c : Cutter) → (port c).game ≡ s) → ⊥
  pub does_nothing : ((c : Cutter) → (port c).game ≡ c) → ⊥
  pub idles_then : ((c : Cutter) → (port (port c).game).game ≡ (port c).game) → ⊥
  pub idles_elsewhere : (s : Cutter) → ((c : Cutter) → (c ≡ s → ⊥) → (port c).game ≡ c) → ⊥
  -- claims another cell than its closing does
  pub invents_a_cell : (c : Cutter) → WF.WellFormed c → (claimed_in (port c).game ≡ claimed_in c + step_claims c → ⊥) → ⊥

pub record WrongPorts : Type 0 where
  pub move : (port : Mine → ℕ → MineAnswer) → ((m : Mine) (dir : ℕ) → port m dir ≡ move_call m dir) → WrongMove port
  pub step : (port : Cutter → CutterAnswer) → ((c : Cutter) → port c ≡ step_call c) → WrongStep port
