-- The promises of Block Mine's calls on a state: refused by a number and the state as it came, or answered.
use Rattle.std.specs.Prelude.{ℕ, leb}
use Rattle.refusal.specs.Refusal.{Checked, NONE, COMMAND, unless, ◌then◌, refused_or}
use Rattle.mine_state.specs.declared.Mine.{Mine}
use Rattle.mine_state.specs.WellFormed.{refusal_of}
use Rattle.mine_rules.specs.Move.{moved}
use Rattle.mine_rules.specs.Tick.{enemies_moved}
use Rattle.mine_rules.specs.Gravity.{gravity_of}
use Rattle.mine.specs.declared.calls.MineAnswer.{MineAnswer}
use Rattle.controls.specs.Keys.{LEFT}

-- a refused call returns the refusal and the state it got
abbrev pub refused : Mine → Checked → MineAnswer
refused m n = record { refusal = n; game = m }

-- one that is not returns no number and the state after
abbrev pub answered : Mine → MineAnswer
answered m = record { refusal = NONE; game = m }

-- move: after the state's own refusals, 5 for a direction command above 3
unfoldable pub move_call : Mine → ℕ → MineAnswer
move_call m dir = refused_or (refusal_of m then unless (leb dir LEFT) COMMAND) (refused m) (answered (moved m dir))

-- gravity
unfoldable pub gravity_call : Mine → MineAnswer
gravity_call m = refused_or (refusal_of m) (refused m) (answered (gravity_of m))

-- creature tick
unfoldable pub tick_call : Mine → MineAnswer
tick_call m = refused_or (refusal_of m) (refused m) (answered (enemies_moved m))
