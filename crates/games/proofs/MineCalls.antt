-- What each call of Block Mine keeps of a well-formed state, and that a state it answers with is well formed. Assumes nothing.
use mathlib.Core.List.{List}
use mathlib.Core.Path.{◌≡◌}
use Prim.Native.Nat.{ℕ}
use lib.Dec.{leb}
use Rattle.refusal.specs.Refusal.{number_given, Checked, COMMAND, unless, ◌then◌, refused_or}
use Rattle.refusal.proofs.Calls.{then_none, refused_or-answered}
use Rattle.answer.specs.declared.Answer.TheVariants.{GoingOn}
use Rattle.mine_state.specs.declared.Mine.{Mine}
use Rattle.mine_state.specs.WellFormed.{WellFormed, refusal_of}
use Rattle.mine_state.proofs.Facts.{accepted}
use Rattle.mine_rules.specs.Move.{moved}
use Rattle.mine_rules.specs.Tick.{enemies_moved}
use Rattle.mine_rules.specs.Gravity.{gravity_of}
use Rattle.mine_keeps.specs.Kept.{Kept}
use Rattle.mine_keeps.proofs.Changes.{kept_self}
use Rattle.mine_keeps.proofs.Gravity.{gravity-kept}
use Rattle.mine_keeps.proofs.Moves.{move-kept}
use Rattle.mine_keeps.proofs.Ticks.{tick-kept}
use Rattle.mine_pass.specs.declared.MineTurn.{MineTurn}
use Rattle.mine_pass.specs.Pass.{still, pass_on, pass_at}
use Rattle.mine_pass.proofs.Kept.{pass_kept}
use Rattle.mine.specs.declared.calls.MineAnswer.{MineAnswer}
use Rattle.mine.specs.Calls.{refused, answered, move_call, gravity_call, tick_call}
use Rattle.controls.specs.Keys.{LEFT}

-- a call that answers with s where the number n is none
module _ (m s : Mine) (n : Checked) where
  call_kept : WellFormed m → Kept m s → Kept m (refused_or n (refused m) (answered s)).game
  call_kept w k = refused_or-answered (refused m) (answered s) (λ (a : MineAnswer). Kept m a.game) n (λ _. kept_self w) (λ _. k)

  call_formed : (number_given n ≡ 0 → WellFormed s) → number_given (refused_or n (refused m) (answered s)).refusal ≡ 0 → WellFormed (refused_or n (refused m) (answered s)).game
  call_formed f =
      refused_or-answered (refused m) (answered s) (λ (a : MineAnswer). number_given a.refusal ≡ 0 → WellFormed a.game) n
      (λ some none. absurd (some none))
      (λ e _. f e)

module _ (m : Mine) where
  pub move_call-kept_lem : (dir : ℕ) → WellFormed m → Kept m (move_call m dir).game
  unfolding move_call
  move_call-kept_lem dir w = call_kept m (moved m dir) (refusal_of m then unless (leb dir LEFT) COMMAND) w (move-kept m dir w)

  pub gravity_call-kept_lem : WellFormed m → Kept m (gravity_call m).game
  unfolding gravity_call
  gravity_call-kept_lem w = call_kept m (gravity_of m) (refusal_of m) w (gravity-kept m w)

  pub tick_call-kept_lem : WellFormed m → Kept m (tick_call m).game
  unfolding tick_call
  tick_call-kept_lem w = call_kept m (enemies_moved m) (refusal_of m) w (tick-kept m w)

  pub move_call-formed_lem : (dir : ℕ) → number_given (move_call m dir).refusal ≡ 0 → WellFormed (move_call m dir).game
  unfolding move_call
  move_call-formed_lem dir =
      let no : Checked = unless (leb dir LEFT) COMMAND in
      call_formed m (moved m dir) (refusal_of m then no) (λ e. (move-kept m dir (accepted m (then_none (refusal_of m) no e).0)).formed)

  pub gravity_call-formed_lem : number_given (gravity_call m).refusal ≡ 0 → WellFormed (gravity_call m).game
  unfolding gravity_call
  gravity_call-formed_lem = call_formed m (gravity_of m) (refusal_of m) (λ e. (gravity-kept m (accepted m e)).formed)

  pub tick_call-formed_lem : number_given (tick_call m).refusal ≡ 0 → WellFormed (tick_call m).game
  unfolding tick_call
  tick_call-formed_lem = call_formed m (enemies_moved m) (refusal_of m) (λ e. (tick-kept m (accepted m e)).formed)

  module _ (keys : List ℕ) (time first second : ℕ) where
    pub pass_at-kept_lem : WellFormed m → Kept m (pass_at m keys time first second).passed.game
    unfolding pass_at
    pass_at-kept_lem w =
        refused_or-answered (λ n. still first second n GoingOn m) (pass_on first second m keys time) (λ (t : MineTurn). Kept m t.passed.game) (refusal_of m)
        (λ _. kept_self w)
        (λ _. pass_kept first second m keys time w)

    pub pass_at-formed_lem : number_given (pass_at m keys time first second).passed.refusal ≡ 0 → WellFormed (pass_at m keys time first second).passed.game
    unfolding pass_at
    pass_at-formed_lem =
        refused_or-answered (λ n. still first second n GoingOn m) (pass_on first second m keys time)
        (λ (t : MineTurn). number_given t.passed.refusal ≡ 0 → WellFormed t.passed.game) (refusal_of m)
        (λ some none. absurd (some none))
        (λ e _. (pass_kept first second m keys time (accepted m e)).formed)
