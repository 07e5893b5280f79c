-- What each call of Block Cutter does to the accounts of a well-formed state, the fresh level that it may start, and that a state it
-- answers with is well formed. Assumes nothing.
use mathlib.Core.Bool.{Bool, true, false, cond, not, ◌&&◌, false≢true}
use mathlib.Core.List.{List}
use mathlib.Core.Path.{◌≡◌, refl, sym, subst, ◌∙◌, ap}
use Prim.Native.Nat.{ℕ}
use native.Mathlib.Omega.{arith}
use borrow.Author.Tests.{not-true}
use lib.Dec.{eqb, leb}
use Rattle.laws.proofs.Choice.{cond_both, and_left, and_right}
use Rattle.refusal.specs.Refusal.{number_given, Checked, COMMAND, DRAWS, unless, ◌then◌, refused_or, clear}
use Rattle.refusal.specs.declared.Refusal.TheVariants.{Draws}
use Rattle.refusal.proofs.Calls.{then_none, unless-none, answered_by, refused_or-answered}
use Rattle.refusal.proofs.Checks.{clear_of, zero_of, unclear}
use Rattle.answer.specs.declared.Answer.TheVariants.{GoingOn}
use Rattle.cutter_state.specs.declared.Cutter.{Cutter}
use Rattle.cutter_state.specs.Change.{with_level, with_lives}
use Rattle.cutter_state.specs.WellFormed.{MAX_LIVES, WellFormed, refusal_of}
use Rattle.cutter_state.proofs.Facts.{accepted, from_facts, well_formed-none}
use Rattle.cutter_rules.specs.Level.{creatures_of, draws_ok, fresh_level}
use Rattle.cutter_rules.specs.Step.{directed}
use Rattle.cutter_rules.specs.Cost.{step_made, respawn_made}
use Rattle.cutter_rules.specs.Tick.{enemies_stepped}
use Rattle.cutter_keeps.specs.Kept.{Kept, Fresh}
use Rattle.cutter_keeps.specs.Steps.{step_claims, step_loses, Accounts}
use Rattle.cutter_keeps.proofs.Changes.{kept_self}
use Rattle.cutter_keeps.proofs.Direction.{direction-kept}
use Rattle.cutter_keeps.proofs.Tick.{tick-kept}
use Rattle.cutter_keeps.proofs.Respawn.{respawn_erased}
use Rattle.cutter_keeps.proofs.Level.{level-fresh}
use Rattle.cutter_keeps.proofs.Accounts.{kept_accounts, erased_accounts, step_accounts}
use Rattle.cutter_pass.specs.declared.CutterTurn.{CutterTurn}
use Rattle.cutter_pass.specs.Pass.{level_due, pass_refusal, hurt, played, still, after_death, after_keys, pass_on, pass_at}
use Rattle.cutter_pass.specs.Accounts.{pass_claims, pass_loses}
use Rattle.cutter_pass.proofs.Refused.{pass_state, pass-level}
use Rattle.cutter_pass.proofs.Accounts.{pass_accounts, pass-fresh, pass-formed}
use Rattle.cutter.specs.declared.calls.CutterAnswer.{CutterAnswer}
use Rattle.cutter.specs.Calls.{refused, made, answered, zeros, FIRST_LEVEL, round_call, level_call, direction_call, step_call, sweeps_call, enemies_call, respawn_call}
use Rattle.games.proofs.Engines.{sweeps_call_lem}
use Rattle.games.specs.CutterAccounts.{Formed}
use Rattle.controls.specs.Keys.{LEFT}

-- ---- a fresh level

pub round-fresh : (draws : List ℕ) → number_given (round_call draws).refusal ≡ 0 → Fresh (round_call draws).game
unfolding round_call
round-fresh draws =
    let s : Cutter = with_lives (with_level zeros FIRST_LEVEL) MAX_LIVES in
    let ok : Bool = draws_ok draws (creatures_of FIRST_LEVEL) in
    refused_or-answered (refused zeros) (answered (fresh_level s draws)) (λ (a : CutterAnswer). number_given a.refusal ≡ 0 → Fresh a.game) (unless ok DRAWS)
    (λ some none. absurd (some none))
    (λ e _. level-fresh s draws (omega arith) (omega arith) (omega arith) (unless-none ok Draws e))

pub call_fresh : (c : Cutter) (draws : List ℕ) → number_given (level_call c draws).refusal ≡ 0 → Fresh (level_call c draws).game
unfolding level_call
call_fresh c draws =
    let ok : Bool = draws_ok draws (creatures_of c.level) in
    refused_or-answered (refused c) (answered (fresh_level c draws)) (λ (a : CutterAnswer). number_given a.refusal ≡ 0 → Fresh a.game) (refusal_of c then unless ok DRAWS)
    (λ some none. absurd (some none))
    (λ e _.
    (let two = then_none (refusal_of c) (unless ok DRAWS) e in
    let w = accepted c two.0 in
    level-fresh c draws w.lives w.level.0 w.level.1 (unless-none ok Draws two.1)))

-- ---- a call that starts no level

module _ (c : Cutter) (w : WellFormed c) where
  pub round-refused : (draws : List ℕ) → clear (round_call draws).refusal ≡ false → Kept c (refused_or (round_call draws).refusal (λ _. c) (round_call draws).game)
  round-refused draws e =
      let n : Checked = (round_call draws).refusal in
      refused_or-answered (λ _. c) (round_call draws).game (Kept c) n (λ _. kept_self w) (λ z. absurd (false≢true (sym e ∙ clear_of n z)))

  pub level-refused : (draws : List ℕ) → clear (level_call c draws).refusal ≡ false → Kept c (level_call c draws).game
  unfolding level_call
  level-refused draws =
      refused_or-answered (refused c) (answered (fresh_level c draws)) (λ (a : CutterAnswer). clear a.refusal ≡ false → Kept c a.game)
      (refusal_of c then unless (draws_ok draws (creatures_of c.level)) DRAWS)
      (λ _ _. kept_self w)
      (λ _ e. absurd (false≢true (sym e)))

  pub direction-called : (dir : ℕ) → Kept c (direction_call c dir).game
  unfolding direction_call
  direction-called dir =
      refused_or-answered (refused c) (answered (directed c dir)) (λ (a : CutterAnswer). Kept c a.game)
      (refusal_of c then unless (leb dir LEFT) COMMAND)
      (λ _. kept_self w)
      (λ _. direction-kept c dir w)

  -- a call that only the state can have refused
  plays : (a : CutterAnswer) → refused_or (refusal_of c) (refused c) a ≡ a
  plays a = answered_by (refused c) a (refusal_of c) (ap number_given (well_formed-none c (from_facts c w)))

  pub step-plays : step_call c ≡ made (step_made c)
  unfolding step_call
  step-plays = plays (made (step_made c))

  pub direction-plays : (dir : ℕ) → leb dir LEFT ≡ true → direction_call c dir ≡ answered (directed c dir)
  unfolding direction_call
  direction-plays dir e =
      answered_by (refused c) (answered (directed c dir)) (refusal_of c then unless (leb dir LEFT) COMMAND) (rw (well_formed-none c (from_facts c w), e))

  pub step-called : Accounts c (step_call c).game (step_claims c) (step_loses c)
  step-called = subst (λ (a : CutterAnswer). Accounts c a.game (step_claims c) (step_loses c)) (sym step-plays) (step_accounts c w)

  -- as the accounts count it
  abbrev Counted : CutterAnswer → Type 0
  Counted a = Accounts c a.game (cond (clear a.refusal) (step_claims c) 0) (cond (clear a.refusal) (step_loses c) 0)

  pub step-counted : Counted (step_call c)
  step-counted = subst Counted (sym step-plays) (step_accounts c w)

  pub sweeps-counted : Counted (sweeps_call c)
  sweeps-counted = subst Counted (sym (sweeps_call_lem c)) step-counted

  pub tick-called : Kept c (enemies_call c).game
  unfolding enemies_call
  tick-called = subst (λ (a : CutterAnswer). Kept c a.game) (sym (plays (answered (enemies_stepped c)))) (tick-kept c w)

  pub respawn-called : Accounts c (respawn_call c).game 0 0
  unfolding respawn_call
  respawn-called = subst (λ (a : CutterAnswer). Accounts c a.game 0 0) (sym (plays (made (respawn_made c)))) (erased_accounts (respawn_erased c w))

-- ---- the pass

abbrev goes : CutterTurn → Bool
goes t = clear t.passed.refusal

abbrev Goes : CutterTurn → Type 0
Goes t = number_given t.passed.refusal ≡ 0

module _ (c : Cutter) (keys draws : List ℕ) (time first second : ℕ) where
  abbrev on : CutterTurn
  on = pass_on first second c keys draws time

  abbrev t : CutterTurn
  t = pass_at c keys draws time first second

  -- a pass that goes on is not refused
  on_none : Goes on
  unfolding pass_on after_death after_keys
  on_none =
      cond_both Goes c.dead _ _ (λ _. cond_both Goes (eqb (hurt c).lives 0) _ _ (λ _. refl) (λ _. refl))
      (λ _. cond_both Goes c.won_level _ _ (λ _. refl) (λ _. cond_both Goes (played c keys).quit _ _ (λ _. refl) (λ _. refl)))

  on_clear : goes on ≡ true
  on_clear = clear_of on.passed.refusal on_none

  -- what holds of a pass refused by a number, and of one that goes on, holds of a pass
  by_pass : (P : CutterTurn → Type 0) → ((n : Checked) → (number_given n ≡ 0 → ⊥) → P (still first second n GoingOn c)) → (number_given (pass_refusal c draws) ≡ 0 → P on) → P t
  unfolding pass_at
  by_pass P f g = refused_or-answered (λ n. still first second n GoingOn c) on P (pass_refusal c draws) (f (pass_refusal c draws)) g

  abbrev Accounted : CutterTurn → Type 0
  Accounted t = Accounts c t.passed.game (cond (goes t) (pass_claims c keys time first) 0) (cond (goes t) (pass_loses c keys time first) 0)

  pub pass-called : WellFormed c → (goes t && level_due c) ≡ false → Accounted t
  pass-called w =
      by_pass (λ (t : CutterTurn). (goes t && level_due c) ≡ false → Accounted t)
      (λ n some _. rw (unclear n some) (kept_accounts (kept_self w)))
      (λ _. rw on_clear (pass_accounts first second c keys draws time w))

  on_fresh : number_given (pass_refusal c draws) ≡ 0 → level_due c ≡ true → Fresh on.passed.game
  unfolding level_due
  on_fresh e due =
      let d = not-true c.dead (and_left (not c.dead) c.won_level due) in
      let v = and_right (not c.dead) c.won_level due in
      pass-fresh first second c keys draws time (pass_state c draws e) (pass-level c draws e d v) d v

  pub pass-starts : (goes t && level_due c) ≡ true → Fresh t.passed.game
  pass-starts =
      by_pass (λ (t : CutterTurn). (goes t && level_due c) ≡ true → Fresh t.passed.game)
      (λ n some e. absurd (some (zero_of n (and_left (clear n) (level_due c) e))))
      (λ e. rw on_clear (on_fresh e))

  pub pass_at-formed_lem : Goes t → WellFormed t.passed.game
  pass_at-formed_lem =
      by_pass (λ (t : CutterTurn). Goes t → WellFormed t.passed.game) (λ n some none. absurd (some none)) (λ e _. pass-formed first second c keys draws time e)

-- ---- an answered state is well formed

-- a call that answers with a where the number n is none
call_formed : (c : Cutter) (a : CutterAnswer) (n : Checked) → (number_given n ≡ 0 → WellFormed a.game) → Formed (refused_or n (refused c) a)
call_formed c a n f = refused_or-answered (refused c) a Formed n (λ some none. absurd (some none)) (λ e _. f e)

module _ (c : Cutter) where
  pub direction-formed : (dir : ℕ) → Formed (direction_call c dir)
  unfolding direction_call
  direction-formed dir =
      let no : Checked = unless (leb dir LEFT) COMMAND in
      call_formed c (answered (directed c dir)) (refusal_of c then no) (λ e. (direction-kept c dir (accepted c (then_none (refusal_of c) no e).0)).formed)

  pub step-formed : Formed (step_call c)
  unfolding step_call
  step-formed = call_formed c (made (step_made c)) (refusal_of c) (λ e. (step_accounts c (accepted c e)).formed)

  pub sweeps-formed : Formed (sweeps_call c)
  sweeps-formed = subst Formed (sym (sweeps_call_lem c)) step-formed

  pub tick-formed : Formed (enemies_call c)
  unfolding enemies_call
  tick-formed = call_formed c (answered (enemies_stepped c)) (refusal_of c) (λ e. (tick-kept c (accepted c e)).formed)

  pub respawn-formed : Formed (respawn_call c)
  unfolding respawn_call
  respawn-formed = call_formed c (made (respawn_made c)) (refusal_of c) (λ e. (respawn_erased c (accepted c e)).formed)
