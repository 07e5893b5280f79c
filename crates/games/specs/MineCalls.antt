-- Every public call of Block Mine with its arguments, and the state and record after any list of them.
use Rattle.std.specs.Prelude.{Bool, true, false, List, [], ◌∷◌, ℕ}
use Rattle.pace.specs.declared.Pace.{Pace}
use Rattle.pace.specs.Pace.{started}
use Rattle.mine_state.specs.declared.Mine.{Mine}
use Rattle.mine_state.specs.declared.Enemy.{Enemy}
use Rattle.mine_rules.specs.Load.{loaded}
use Rattle.mine_pass.specs.Pass.{pass_at}
use Rattle.mine.specs.Calls.{move_call, gravity_call, tick_call}
use Rattle.mine.specs.Turn.{pass_of}

-- a pass has the play's own record lent, or any marks as numbers; `Begin` starts the record with a reading
pub data MineCall : Type 0 where
  Load : MineCall
  Move : (dir : ℕ) → MineCall
  Gravity : MineCall
  Tick : MineCall
  Begin : (time : ℕ) → MineCall
  Pass : (keys : List ℕ) (time : ℕ) → MineCall
  PassMarks : (keys : List ℕ) (time first second : ℕ) → MineCall
  Picture : (frame : List ℕ) → MineCall
  Question : (list : List Enemy) (x y : ℕ) → MineCall

-- the state and the pacing record that a host holds
pub record Play : Type 0 where
  pub game : Mine
  pub pace : Pace

-- what a call leaves of them, by its promise: a refused one leaves both; a picture and a question only look
unfoldable pub called : Play → MineCall → Play
called p Load = record { game = loaded; pace = p.pace }
called p (Move dir) = record { game = (move_call p.game dir).game; pace = p.pace }
called p Gravity = record { game = (gravity_call p.game).game; pace = p.pace }
called p Tick = record { game = (tick_call p.game).game; pace = p.pace }
called p (Begin time) = record { game = p.game; pace = started time }
called p (Pass keys time) =
    record { game = (pass_of p.game keys time p.pace).0.game; pace = (pass_of p.game keys time p.pace).1 }
called p (PassMarks keys time first second) =
    record { game = (pass_at p.game keys time first second).passed.game; pace = p.pace }
called p (Picture frame) = p
called p (Question list x y) = p

-- any list of calls, in order
unfoldable pub after : Play → List MineCall → Play
after p [] = p
after p (c ∷ cs) = after (called p c) cs

-- the calls of a round: every one but load
abbrev pub plays : MineCall → Bool
plays Load = false
plays (Move dir) = true
plays Gravity = true
plays Tick = true
plays (Begin time) = true
plays (Pass keys time) = true
plays (PassMarks keys time first second) = true
plays (Picture frame) = true
plays (Question list x y) = true
