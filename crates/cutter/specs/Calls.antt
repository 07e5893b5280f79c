-- The promises of Block Cutter's calls: refused with the state as it came, or answered.
use Rattle.std.specs.Prelude.{false, List, [], ℕ, leb, pos, replicate}
use Rattle.refusal.specs.Refusal.{Checked, NONE, COMMAND, DRAWS, unless, ◌then◌, refused_or}
use Rattle.cutter_ground.specs.Cells.{CN, CB_BLACK}
use Rattle.cutter_state.specs.declared.Cutter.{Cutter}
use Rattle.cutter_state.specs.Change.{with_level, with_lives, state_of}
use Rattle.cutter_state.specs.WellFormed.{MAX_LIVES, refusal_of}
use Rattle.cutter_rules.specs.Level.{creatures_of, draws_ok, fresh_level}
use Rattle.cutter_rules.specs.Step.{directed}
use Rattle.cutter_rules.specs.Tick.{enemies_stepped}
use Rattle.cutter.specs.declared.calls.CutterAnswer.{CutterAnswer}
use Rattle.cutter.specs.declared.calls.Ground.{Ground}
use Rattle.cutter_state.specs.State.{black_in, claimed_in, line_in, share_in}
use Rattle.cutter_ground.specs.Movers.{slots}
use Rattle.controls.specs.Keys.{LEFT}
use Rattle.cutter_rules.specs.Cost.{step_made, swept_made, respawn_made}
use Rattle.cutter_rules.specs.declared.Made.{Made}

-- a refused call returns the refusal and the state it got
abbrev pub refused : Cutter → Checked → CutterAnswer
refused c n = record { refusal = n; game = c; searched = 0; walked = 0 }

-- one that is not returns no number and the state after, with the cells that a search and a walk took
abbrev pub made : Made → CutterAnswer
made m = record { refusal = NONE; game = m.game; searched = m.searched; walked = m.walked }

-- zero for a call without a search
abbrev pub answered : Cutter → CutterAnswer
answered c = record { refusal = NONE; game = c; searched = 0; walked = 0 }

-- a call that gets no state gives zeros and false flags in its place
unfoldable pub zeros : Cutter
zeros = state_of (replicate CN CB_BLACK) 0 0 (pos 0) (pos 0) false (slots []) 0 0 0 false false

-- ---- new round: level 1, 3 lives, 4 draws

abbrev pub FIRST_LEVEL : ℕ
FIRST_LEVEL = 1

unfoldable pub round_call : List ℕ → CutterAnswer
round_call draws =
    refused_or (unless (draws_ok draws (creatures_of FIRST_LEVEL)) DRAWS) (refused zeros)
    (answered (fresh_level (with_lives (with_level zeros FIRST_LEVEL) MAX_LIVES) draws))

-- ---- on a state: after the state's own refusals

-- fresh level for the state's own level: 7 for draws that are not its own
unfoldable pub level_call : Cutter → List ℕ → CutterAnswer
level_call c draws =
    refused_or (refusal_of c then unless (draws_ok draws (creatures_of c.level)) DRAWS) (refused c)
    (answered (fresh_level c draws))

-- direction: 5 for a direction command above 3
unfoldable pub direction_call : Cutter → ℕ → CutterAnswer
direction_call c dir = refused_or (refusal_of c then unless (leb dir LEFT) COMMAND) (refused c) (answered (directed c dir))

-- step
unfoldable pub step_call : Cutter → CutterAnswer
step_call c = refused_or (refusal_of c) (refused c) (made (step_made c))

-- step, a cut closed by sweeps
unfoldable pub sweeps_call : Cutter → CutterAnswer
sweeps_call c = refused_or (refusal_of c) (refused c) (made (swept_made c))

-- creature tick
unfoldable pub enemies_call : Cutter → CutterAnswer
enemies_call c = refused_or (refusal_of c) (refused c) (answered (enemies_stepped c))

-- respawn
unfoldable pub respawn_call : Cutter → CutterAnswer
respawn_call c = refused_or (refusal_of c) (refused c) (made (respawn_made c))

-- ---- ground report: black, claimed and line cells, and the share

-- zeros where refused
abbrev pub unreported : Checked → Ground
unreported n = record { refusal = n; black = 0; claimed = 0; line = 0; share = 0 }

abbrev pub reported : Cutter → Ground
reported c = record { refusal = NONE; black = black_in c; claimed = claimed_in c; line = line_in c; share = share_in c }

unfoldable pub report_call : Cutter → Ground
report_call c = refused_or (refusal_of c) unreported (reported c)
