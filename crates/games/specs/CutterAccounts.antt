-- Block Cutter's accounts: claimed cells and creatures over any list of public calls, with any arguments, refused ones too, none starting a level.
use Rattle.refusal.specs.Refusal.{number_given}
use Rattle.std.specs.Prelude.{true, List, ◌≡◌, ℕ, ◌+◌}
use Rattle.pace.specs.declared.Pace.{Pace}
use Rattle.cutter_state.specs.declared.Cutter.{Cutter}
use Rattle.cutter_state.specs.WellFormed.{WellFormed}
use Rattle.cutter_keeps.specs.Kept.{Fresh}
use Rattle.cutter_keeps.specs.Steps.{Accounts}
use Rattle.cutter_pass.specs.Pass.{pass_at}
use Rattle.cutter.specs.declared.calls.CutterAnswer.{CutterAnswer}
use Rattle.cutter.specs.Calls.{round_call, level_call, direction_call, step_call, sweeps_call, enemies_call, respawn_call}
use Rattle.cutter.specs.Turn.{pass_of}
use Rattle.games.specs.CutterCalls.{CutterCall, Play, called, after, goes_on, claims, loses}
use Rattle.cutter_state.specs.State.{claimed_in}

pub record CutterAccounts : Type 0 where
  -- what a call that starts a level leaves is fresh, whatever state came
  pub fresh : (p : Play) (k : CutterCall) → (called p k).starts ≡ true → Fresh (called p k).play.game
  -- from there: 188 and what the closings claimed; the creatures left and those that the closings lost
  pub claimed : (p : Play) (ks : List CutterCall) → Fresh p.game → goes_on p ks ≡ true → claimed_in (after p ks).game ≡ 188 + claims p ks
  pub creatures : (p : Play) (ks : List CutterCall) → Fresh p.game → goes_on p ks ≡ true → p.game.count ≡ (after p ks).game.count + loses p ks
  pub formed : (p : Play) (ks : List CutterCall) → Fresh p.game → goes_on p ks ≡ true → WellFormed (after p ks).game
  -- the same of any well-formed start
  pub from_any : (p : Play) (ks : List CutterCall) → WellFormed p.game → goes_on p ks ≡ true
      → Accounts p.game (after p ks).game (claims p ks) (loses p ks)

-- every state given without a refusal is well formed, whatever state came
abbrev pub Formed : CutterAnswer → Type 0
Formed a = number_given a.refusal ≡ 0 → WellFormed a.game

pub record CutterFormed : Type 0 where
  pub round : (draws : List ℕ) → Formed (round_call draws)
  pub level : (c : Cutter) (draws : List ℕ) → Formed (level_call c draws)
  pub direction : (c : Cutter) (dir : ℕ) → Formed (direction_call c dir)
  pub step : (c : Cutter) → Formed (step_call c)
  pub sweeps : (c : Cutter) → Formed (sweeps_call c)
  pub tick : (c : Cutter) → Formed (enemies_call c)
  pub respawn : (c : Cutter) → Formed (respawn_call c)
  pub pass : (c : Cutter) (keys draws : List ℕ) (time : ℕ) (pace : Pace)
      → number_given (pass_of c keys draws time pace).0.refusal ≡ 0 → WellFormed (pass_of c keys draws time pace).0.game
  pub pass_marks : (c : Cutter) (keys draws : List ℕ) (time first second : ℕ) → number_given (pass_at c keys draws time first second).passed.refusal ≡ 0
      → WellFormed (pass_at c keys draws time first second).passed.game
