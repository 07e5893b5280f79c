-- Document 01, 'One pass, and the pacing record': one turn of Block Cutter's loop, on the numbers of the record.
use Rattle.std.specs.Prelude.{Bool, true, false, cond, not, ◌&&◌, List, ℕ, ◌+◌, ◌-◌, ◌*◌, ◌/◌, eqb, ltb, length}
use Rattle.refusal.specs.Refusal.{Checked, NONE, DRAWS, LAST_LEVEL, unless, ◌then◌, refused_or}
use Rattle.answer.specs.declared.Answer.{Answer}
use Rattle.answer.specs.declared.Answer.TheVariants.{GoingOn, Over, Quit}
use Rattle.pace.specs.declared.Pace.{Pace}
use Rattle.pace.specs.declared.Ticks.{Ticks}
use Rattle.pace.specs.Pace.{both_ticks}
use Rattle.cutter_state.specs.declared.Cutter.{Cutter}
use Rattle.cutter_state.specs.Change.{with_level, with_lives, with_dead, with_won}
use Rattle.cutter_state.specs.WellFormed.{MAX_LEVEL, refusal_of}
use Rattle.cutter_rules.specs.Level.{creatures_of, draws_ok, fresh_level}
use Rattle.cutter_rules.specs.Step.{directed, stepped, respawned}
use Rattle.cutter_rules.specs.Tick.{enemies_stepped}
use Rattle.cutter_rules.specs.Cost.{step_searched, step_walked, respawn_walked}
use Rattle.cutter_pass.specs.declared.CutterTurn.{CutterTurn}
use Rattle.cutter_ground.specs.Cells.{INNER}
use Rattle.cutter_state.specs.State.{black_in}
use Rattle.controls.specs.Keys.{Played, keyed_by, played_by}

-- step 2,400,000, creatures 4,000,000
abbrev pub CUT_MOVE_CYCLES : ℕ
CUT_MOVE_CYCLES = 2400000

abbrev pub CUT_ENEMY_CYCLES : ℕ
CUT_ENEMY_CYCLES = 4000000

-- 465: a quarter of the 1,860 cells inside the ring
abbrev pub CLEAR_BLACK_PCT : ℕ
CLEAR_BLACK_PCT = 25

abbrev pub CLEAR_BELOW : ℕ
CLEAR_BELOW = INNER * CLEAR_BLACK_PCT / 100

-- ---- what is refused

-- a new level is due: won, and not dead, which comes first
unfoldable pub level_due : Cutter → Bool
level_due c = not c.dead && c.won_level

-- 8 where the level is 65,535; then 7 for draws that are not those of level n, the old level plus 1
unfoldable pub level_refusal : Cutter → List ℕ → Checked
level_refusal c draws =
    unless (not (eqb c.level MAX_LEVEL)) LAST_LEVEL
    then unless (draws_ok draws (creatures_of (c.level + 1))) DRAWS

-- after the state's own refusals; 7 for any draws in other passes
unfoldable pub pass_refusal : Cutter → List ℕ → Checked
pass_refusal c draws =
    refusal_of c then cond (level_due c) (level_refusal c draws) (unless (eqb (length draws) 0) DRAWS)

-- ---- dead, and level won

-- flag cleared, one life less (never below 0)
unfoldable pub hurt : Cutter → Cutter
hurt c = with_lives (with_dead c false) (c.lives - 1)

-- flag cleared, level up, fresh level
unfoldable pub next_level : Cutter → List ℕ → Cutter
next_level c draws = fresh_level (with_level (with_won c false) (c.level + 1)) draws

-- ---- keys

-- the keys of a pass: each that gives a direction sets it
abbrev pub keyed : Cutter → ℕ → Cutter
keyed c key = keyed_by directed c key

abbrev pub played : Cutter → List ℕ → Played Cutter
played c keys = played_by directed c keys

-- ---- ticks

-- black below 465 sets won
unfoldable pub scored : Cutter → Cutter
scored c = cond (ltb (black_in c) CLEAR_BELOW) (with_won c true) c

-- after the step, and only then
abbrev pub step_scored : Cutter → Cutter
step_scored c = scored (stepped c)

-- step if due; then creatures if due
abbrev pub paced : Cutter → Ticks → Cutter
paced c due =
    let after : Cutter = cond due.one (step_scored c) c in
    cond due.two (enemies_stepped after) after

-- the cells that its search and its walk take
abbrev pub paced_searched : Cutter → Ticks → ℕ
paced_searched c due = cond due.one (step_searched c) 0

abbrev pub paced_walked : Cutter → Ticks → ℕ
paced_walked c due = cond due.one (step_walked c) 0

-- ---- the pass

module _ (first second : ℕ) where
  -- the record with these marks, and the cells that a search and a walk took
  abbrev pub costing : Checked → Answer → Cutter → ℕ → ℕ → CutterTurn
  costing refusal answer c searched walked =
      record {
        first = first;
        second = second;
        passed = record { refusal = refusal; answer = answer; game = c; searched = searched; walked = walked };
      }

  -- neither search nor walk
  abbrev pub still : Checked → Answer → Cutter → CutterTurn
  still refusal answer c = costing refusal answer c 0 0

  -- over at 0 lives, else respawn, end of pass
  unfoldable pub after_death : Cutter → CutterTurn
  after_death c =
      cond (eqb (hurt c).lives 0) (still NONE Over (hurt c))
      (costing NONE GoingOn (respawned (hurt c)) 0 (respawn_walked (hurt c)))

  -- which of step and creatures are due at a reading, and the marks after it
  abbrev pub ticks_at : ℕ → Ticks
  ticks_at time = both_ticks time first second CUT_MOVE_CYCLES CUT_ENEMY_CYCLES

  -- quit: no ticks; else both ticks of the reading
  unfoldable pub after_keys : ℕ → Played Cutter → CutterTurn
  after_keys time p =
      let due : Ticks = ticks_at time in
      cond p.quit (still NONE Quit p.game)
      (record {
        first = due.first;
        second = due.second;
        passed = record {
          refusal = NONE;
          answer = GoingOn;
          game = paced p.game due;
          searched = paced_searched p.game due;
          walked = paced_walked p.game due;
        };
      })

  -- dead first; else level won; else the keys
  unfoldable pub pass_on : Cutter → List ℕ → List ℕ → ℕ → CutterTurn
  pass_on c keys draws time =
      cond c.dead (after_death c)
      (cond c.won_level (still NONE GoingOn (next_level c draws)) (after_keys time (played c keys)))

-- a refused pass leaves state and record, and answers going on
unfoldable pub pass_at : Cutter → List ℕ → List ℕ → ℕ → ℕ → ℕ → CutterTurn
pass_at c keys draws time first second =
    refused_or (pass_refusal c draws) (λ n. still first second n GoingOn c) (pass_on first second c keys draws time)

-- the record after
abbrev pub marks_of : CutterTurn → Pace
marks_of t = record { first = t.first; second = t.second }
