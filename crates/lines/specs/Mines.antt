-- Document 01, 'Programs and cases': what `mines` does with a byte, and with a run of bytes.
use Rattle.std.specs.Prelude.{Bool, cond, List, [], ◌∷◌, ℕ, eqb}
use Prim.Native.Char.{code}
use Rattle.laws.specs.Lists.{bit}
use Rattle.refusal.specs.declared.Refusal.TheVariants.{Command}
use Rattle.text.specs.Text.{NEWLINE}
use Rattle.text.specs.declared.Says.TheVariants.{Nothing, Numbers, Refused}
use Rattle.mine_state.specs.declared.Mine.{Mine}
use Rattle.mine_rules.specs.Load.{loaded}
use Rattle.mine.specs.declared.calls.MineAnswer.{MineAnswer}
use Rattle.mine.specs.Calls.{move_call, gravity_call, tick_call}
use Rattle.lines.specs.declared.playing.Said.{Said}
use Rattle.lines.specs.declared.playing.Run.{Run}
use Rattle.lines.specs.Runs.{says_of, said, game_after, lines_after, Ran}
use Rattle.controls.specs.Keys.{UP, RIGHT, DOWN, LEFT}

-- a line: x, y, coins, needed, creatures, dead, won
abbrev pub mine_numbers : Mine → List ℕ
mine_numbers m = m.px ∷ m.py ∷ m.coins ∷ m.needed ∷ m.count ∷ bit m.dead ∷ bit m.won ∷ []

-- a call that is refused tells its number, one that is answered the numbers of the game
unfoldable pub said_of : MineAnswer → Said Mine
said_of a = said (says_of a.refusal) a.game

-- L load, 5 8 7 9 move, g gravity, c creatures; newline is ignored, others are refused with 5
unfoldable pub mine_byte : Mine → ℕ → Said Mine
mine_byte m b =
    cond (eqb b NEWLINE) (said Nothing m)
    (cond (eqb b (code "L")) (said Numbers loaded)
    (cond (eqb b (code "5")) (said_of (move_call m UP))
    (cond (eqb b (code "8")) (said_of (move_call m DOWN))
    (cond (eqb b (code "7")) (said_of (move_call m LEFT))
    (cond (eqb b (code "9")) (said_of (move_call m RIGHT))
    (cond (eqb b (code "g")) (said_of (gravity_call m))
    (cond (eqb b (code "c")) (said_of (tick_call m))
    (said (Refused Command) m))))))))

-- the mine after a run, and its lines; where it is parted into scripts, each starts loaded
abbrev pub mine_after : Bool → Mine → List ℕ → Mine
mine_after = game_after mine_byte loaded

abbrev pub mine_lines : Bool → Mine → List ℕ → List ℕ
mine_lines = lines_after mine_byte loaded mine_numbers

-- a run is played, and its lines stand at the start of a buffer
abbrev pub MineRan : Bool → Mine → List ℕ → List ℕ → Run Mine → List ℕ → Type 0
MineRan = Ran mine_byte loaded mine_numbers
