-- Every public call of Block Cutter with its arguments: the state and record after any list of them, and what their closings did.
use Rattle.std.specs.Prelude.{Bool, true, false, cond, not, ◌&&◌, List, [], ◌∷◌, ℕ, ◌+◌}
use Rattle.refusal.specs.Refusal.{Checked, refused_or, clear}
use Rattle.pace.specs.declared.Pace.{Pace}
use Rattle.pace.specs.Pace.{started}
use Rattle.cutter_ground.specs.declared.Mover.{Mover}
use Rattle.cutter_state.specs.declared.Cutter.{Cutter}
use Rattle.cutter_keeps.specs.Steps.{step_claims, step_loses}
use Rattle.cutter_pass.specs.declared.CutterPassed.{CutterPassed}
use Rattle.cutter_pass.specs.Pass.{level_due, pass_at}
use Rattle.cutter_pass.specs.Accounts.{pass_claims, pass_loses}
use Rattle.cutter.specs.declared.calls.CutterAnswer.{CutterAnswer}
use Rattle.cutter.specs.Calls.{round_call, level_call, direction_call, step_call, sweeps_call, enemies_call, respawn_call}
use Rattle.cutter.specs.Turn.{pass_of}

-- a pass has the play's own record lent, or any marks as numbers; `Begin` starts the record with a reading
pub data CutterCall : Type 0 where
  Round Level : (draws : List ℕ) → CutterCall
  Direction : (dir : ℕ) → CutterCall
  Step StepBySweeps Tick Respawn Report : CutterCall
  Begin : (time : ℕ) → CutterCall
  Pass : (keys draws : List ℕ) (time : ℕ) → CutterCall
  PassMarks : (keys draws : List ℕ) (time first second : ℕ) → CutterCall
  Picture : (frame : List ℕ) → CutterCall
  Question : (list : List Mover) (x y : ℕ) → CutterCall

-- the state and the pacing record that a host holds
pub record Play : Type 0 where
  pub game : Cutter
  pub pace : Pace

-- what a call leaves; whether it starts a level; cells claimed and creatures lost by its closing
pub record Outcome : Type 0 where
  pub play : Play
  pub starts : Bool
  pub claims : ℕ
  pub loses : ℕ

abbrev pub only : Play → Outcome
only p = record { play = p; starts = false; claims = 0; loses = 0 }

module _ (p : Play) where
  -- another state, with the record as it was
  abbrev pub playing : Cutter → Play
  playing s = record { game = s; pace = p.pace }

  -- it starts a level where it is not refused
  abbrev pub starting : Checked → Cutter → Outcome
  starting refusal s = record { play = playing s; starts = clear refusal; claims = 0; loses = 0 }

  -- a step that is not refused has its closing
  abbrev pub stepping : CutterAnswer → Outcome
  stepping a =
      let goes : Bool = clear a.refusal in
      record { play = playing a.game; starts = false; claims = cond goes (step_claims p.game) 0; loses = cond goes (step_loses p.game) 0 }

  -- a pass that is not refused starts the level that is due, and has the closing of its step; `first` is the step's mark
  abbrev pub passing : List ℕ → ℕ → ℕ → CutterPassed → Pace → Outcome
  passing keys time first passed pace =
      let goes : Bool = clear passed.refusal in
      record {
        play = record { game = passed.game; pace = pace };
        starts = goes && level_due p.game;
        claims = cond goes (pass_claims p.game keys time first) 0;
        loses = cond goes (pass_loses p.game keys time first) 0;
      }

-- by its promise; a refused new round leaves the state that the host has
unfoldable pub called : Play → CutterCall → Outcome
called p (Round draws) = starting p (round_call draws).refusal (refused_or (round_call draws).refusal (λ _. p.game) (round_call draws).game)
called p (Level draws) = starting p (level_call p.game draws).refusal (level_call p.game draws).game
called p (Direction dir) = only (playing p (direction_call p.game dir).game)
called p Step = stepping p (step_call p.game)
called p StepBySweeps = stepping p (sweeps_call p.game)
called p Tick = only (playing p (enemies_call p.game).game)
called p Respawn = only (playing p (respawn_call p.game).game)
called p Report = only p
called p (Begin time) = only (record { game = p.game; pace = started time })
called p (Pass keys draws time) =
    passing p keys time p.pace.first (pass_of p.game keys draws time p.pace).0 (pass_of p.game keys draws time p.pace).1
called p (PassMarks keys draws time first second) = passing p keys time first (pass_at p.game keys draws time first second).passed p.pace
called p (Picture frame) = only p
called p (Question list x y) = only p

-- after a list of calls; that none of them starts a level; the sums over their closings
unfoldable pub after : Play → List CutterCall → Play
after p [] = p
after p (k ∷ ks) = after (called p k).play ks

unfoldable pub goes_on : Play → List CutterCall → Bool
goes_on p [] = true
goes_on p (k ∷ ks) = not (called p k).starts && goes_on (called p k).play ks

unfoldable pub sum : (Outcome → ℕ) → Play → List CutterCall → ℕ
sum part p [] = 0
sum part p (k ∷ ks) = part (called p k) + sum part (called p k).play ks

abbrev pub claims : Play → List CutterCall → ℕ
claims p ks = sum (λ o. o.claims) p ks

abbrev pub loses : Play → List CutterCall → ℕ
loses p ks = sum (λ o. o.loses) p ks
