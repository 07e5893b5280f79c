-- Document 01, 'Programs and cases': what `cuts` does with a byte, and with a run of bytes.
use Rattle.std.specs.Prelude.{Bool, cond, List, [], ◌∷◌, ℕ, eqb}
use Prim.Native.Char.{code}
use Rattle.laws.specs.Lists.{bit, tally}
use Rattle.refusal.specs.declared.Refusal.TheVariants.{Command}
use Rattle.text.specs.Text.{NEWLINE}
use Rattle.text.specs.declared.Says.TheVariants.{Nothing, Refused}
use Rattle.cutter_ground.specs.Cells.{CB_FILLED, CB_TRAIL, black_count}
use Rattle.cutter_state.specs.declared.Cutter.{Cutter}
use Rattle.cutter.specs.declared.calls.CutterAnswer.{CutterAnswer}
use Rattle.cutter.specs.Calls.{round_call, direction_call, step_call, enemies_call, respawn_call}
use Rattle.lines.specs.declared.playing.Said.{Said}
use Rattle.lines.specs.declared.playing.Run.{Run}
use Rattle.lines.specs.Runs.{says_of, said, game_after, lines_after, Ran}
use Rattle.controls.specs.Keys.{UP, RIGHT, DOWN, LEFT}

-- level 1, 3 lives, with one creature at (10,10), velocity (1,1): a new round by these draws
unfoldable pub cut_start : Cutter
cut_start = (round_call (9 ∷ 9 ∷ 1 ∷ 1 ∷ [])).game

-- a line: x, y, black, claimed, line, creatures, dead
abbrev pub cut_numbers : Cutter → List ℕ
cut_numbers c = c.px ∷ c.py ∷ black_count c.grid ∷ tally CB_FILLED c.grid ∷ tally CB_TRAIL c.grid ∷ c.count ∷ bit c.dead ∷ []

-- a call that is refused tells its number, one that is answered the numbers of the game
unfoldable pub said_of : CutterAnswer → Said Cutter
said_of a = said (says_of a.refusal) a.game

-- 5 8 7 9 direction, s step, e creatures, r respawn; newline is ignored, others are refused with 5
unfoldable pub cut_byte : Cutter → ℕ → Said Cutter
cut_byte c b =
    cond (eqb b NEWLINE) (said Nothing c)
    (cond (eqb b (code "5")) (said_of (direction_call c UP))
    (cond (eqb b (code "8")) (said_of (direction_call c DOWN))
    (cond (eqb b (code "7")) (said_of (direction_call c LEFT))
    (cond (eqb b (code "9")) (said_of (direction_call c RIGHT))
    (cond (eqb b (code "s")) (said_of (step_call c))
    (cond (eqb b (code "e")) (said_of (enemies_call c))
    (cond (eqb b (code "r")) (said_of (respawn_call c))
    (said (Refused Command) c))))))))

-- the game after a run, and its lines; where it is parted into scripts, each starts anew
abbrev pub cut_after : Bool → Cutter → List ℕ → Cutter
cut_after = game_after cut_byte cut_start

abbrev pub cut_lines : Bool → Cutter → List ℕ → List ℕ
cut_lines = lines_after cut_byte cut_start cut_numbers

-- a run is played, and its lines stand at the start of a buffer
abbrev pub CutRan : Bool → Cutter → List ℕ → List ℕ → Run Cutter → List ℕ → Type 0
CutRan = Ran cut_byte cut_start cut_numbers
