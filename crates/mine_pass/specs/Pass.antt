-- Document 01, 'One pass, and the pacing record': one turn of Block Mine's loop, on the numbers of the record.
use Rattle.std.specs.Prelude.{cond, List, ℕ}
use Rattle.refusal.specs.Refusal.{Checked, NONE, refused_or}
use Rattle.answer.specs.declared.Answer.{Answer}
use Rattle.answer.specs.declared.Answer.TheVariants.{GoingOn, Won, Dead, Quit}
use Rattle.pace.specs.declared.Pace.{Pace}
use Rattle.pace.specs.declared.Ticks.{Ticks}
use Rattle.pace.specs.Pace.{both_ticks}
use Rattle.mine_state.specs.declared.Mine.{Mine}
use Rattle.mine_state.specs.WellFormed.{refusal_of}
use Rattle.mine_rules.specs.Move.{moved}
use Rattle.mine_rules.specs.Tick as Tick
use Rattle.mine_rules.specs.Gravity.{gravity_of}
use Rattle.mine_pass.specs.declared.MineTurn.{MineTurn}
use Rattle.controls.specs.Keys.{Played, keyed_by, played_by}

-- gravity 12,000,000, creatures 36,000,000
abbrev pub GRAVITY_CYCLES : ℕ
GRAVITY_CYCLES = 12000000

abbrev pub ENEMY_CYCLES : ℕ
ENEMY_CYCLES = 36000000

-- the keys of a pass: each that gives a direction moves
abbrev pub keyed : Mine → ℕ → Mine
keyed m key = keyed_by moved m key

abbrev pub played : Mine → List ℕ → Played Mine
played m keys = played_by moved m keys

-- gravity if due, then creatures if due
abbrev pub paced : Mine → Ticks → Mine
paced m due =
    let fallen : Mine = cond due.one (gravity_of m) m in
    cond due.two (Tick.enemies_moved fallen) fallen

module _ (first second : ℕ) where
  -- the record as it was
  abbrev pub still : Checked → Answer → Mine → MineTurn
  still refusal answer m = record { first = first; second = second; passed = record { refusal = refusal; answer = answer; game = m } }

  -- quit: no ticks; else both ticks of the reading
  unfoldable pub after_keys : ℕ → Played Mine → MineTurn
  after_keys time p =
      let due : Ticks = both_ticks time first second GRAVITY_CYCLES ENEMY_CYCLES in
      cond p.quit (still NONE Quit p.game)
      (record { first = due.first; second = due.second; passed = record { refusal = NONE; answer = GoingOn; game = paced p.game due } })

  -- won ends the round, else dead ends it, nothing changed; then the keys
  unfoldable pub pass_on : Mine → List ℕ → ℕ → MineTurn
  pass_on m keys time = cond m.won (still NONE Won m) (cond m.dead (still NONE Dead m) (after_keys time (played m keys)))

-- a refused pass leaves state and record, and answers going on
unfoldable pub pass_at : Mine → List ℕ → ℕ → ℕ → ℕ → MineTurn
pass_at m keys time first second =
    refused_or (refusal_of m) (λ n. still first second n GoingOn m) (pass_on first second m keys time)

-- the record after
abbrev pub marks_of : MineTurn → Pace
marks_of t = record { first = t.first; second = t.second }
