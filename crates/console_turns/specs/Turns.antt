-- One turn of each game at a console, over the promises of the public calls.
use Rattle.std.specs.Prelude.{Bool, true, cond, List, [], ◌∷◌, ◌≡◌, ℕ, ◌+◌, ◌-◌, ◌*◌, ◌%◌, ◌≤◌, eqb, length, take}
use Rattle.laws.specs.Lists.{any}
use Rattle.refusal.specs.Refusal.{Checked, clear}
use Rattle.answer.specs.declared.Answer.{Answer}
use Rattle.answer.specs.Answer.{GOING_ON, QUIT, number_of}
use Rattle.console_keys.specs.Keys.{NEW}
use Rattle.mine_rules.specs.Load.{loaded}
use Rattle.mine_pass.specs.declared.MineTurn.{MineTurn}
use Rattle.mine_pass.specs.Pass as Mine
use Rattle.cutter_ground.specs.Cells.{CW, CH}
use Rattle.cutter_rules.specs.Level.{DRAWS_EACH, creatures_of, draws_ok}
use Rattle.cutter_pass.specs.declared.CutterTurn.{CutterTurn}
use Rattle.cutter_pass.specs.Pass as Cutter
use Rattle.cutter.specs.declared.calls.CutterAnswer.{CutterAnswer}
use Rattle.cutter.specs.Calls.{round_call}
use Rattle.console_turns.specs.declared.mining.MinePlay.{MinePlay}
use Rattle.console_turns.specs.declared.cut.CutterPlay.{CutterPlay}
use Rattle.controls.specs.Keys.{KEY_QUIT}

-- how a round stands: the number of the pass's answer, and 5 where it was refused
abbrev pub REFUSED : ℕ
REFUSED = 5

unfoldable pub standing : Checked → Answer → ℕ
standing refusal answer = cond (clear refusal) (number_of answer) REFUSED

-- whether a key is among those pressed
abbrev pub pressed_in : List ℕ → ℕ → Bool
pressed_in keys key = any (λ k. eqb k key) keys

-- ---- Block Mine

-- a round from its first reading on
abbrev pub mine_started : ℕ → MinePlay
mine_started time = record { game = loaded; first = time; second = time; stands = GOING_ON }

abbrev pub mine_after : MineTurn → MinePlay
mine_after t = record { game = t.passed.game; first = t.first; second = t.second; stands = standing t.passed.refusal t.passed.answer }

-- a pass while the round goes on; then the end, or another round, by key
unfoldable pub mine_turn : MinePlay → List ℕ → ℕ → MinePlay
mine_turn p keys time =
    cond (eqb p.stands GOING_ON) (mine_after (Mine.pass_at p.game keys time p.first p.second))
    (cond (pressed_in keys KEY_QUIT) (record { game = p.game; first = p.first; second = p.second; stands = QUIT })
    (cond (pressed_in keys NEW) (mine_started time) p))

-- ---- Block Cutter: its draws

-- a draw is below 62, 30, 2 or 2, by its place
unfoldable pub limit_at : ℕ → ℕ
limit_at place = cond (eqb (place % DRAWS_EACH) 0) (CW - 2) (cond (eqb (place % DRAWS_EACH) 1) (CH - 2) 2)

-- random bytes from a place on as draws: each byte's rest by its limit
unfoldable pub draws_from : ℕ → List ℕ → List ℕ
draws_from place [] = []
draws_from place (b ∷ bs) = b % limit_at place ∷ draws_from (place + 1) bs

-- the draws that a turn takes: those of a round where one may begin, and those of the level that a pass starts
unfoldable pub draws_due : CutterPlay → ℕ
draws_due p =
    cond (eqb p.stands GOING_ON)
    (cond (Cutter.level_due p.game) (DRAWS_EACH * creatures_of (p.game.level + 1)) 0)
    (DRAWS_EACH * creatures_of 1)

-- no call is refused for such draws: those of n creatures are as many as they should be, and each is in range
abbrev pub DrawsFit : Type 0
DrawsFit = (n : ℕ) (bytes : List ℕ) → DRAWS_EACH * n ≤ length bytes → draws_ok (take (DRAWS_EACH * n) (draws_from 0 bytes)) n ≡ true

-- ---- Block Cutter

abbrev pub round_at : CutterAnswer → ℕ → CutterPlay
round_at a time = record { game = a.game; first = time; second = time; stands = cond (clear a.refusal) GOING_ON REFUSED }

unfoldable pub cutter_started : List ℕ → ℕ → CutterPlay
cutter_started draws time = round_at (round_call draws) time

abbrev pub cutter_after : CutterTurn → CutterPlay
cutter_after t = record { game = t.passed.game; first = t.first; second = t.second; stands = standing t.passed.refusal t.passed.answer }

unfoldable pub cutter_turn : CutterPlay → List ℕ → List ℕ → ℕ → CutterPlay
cutter_turn p keys draws time =
    cond (eqb p.stands GOING_ON) (cutter_after (Cutter.pass_at p.game keys draws time p.first p.second))
    (cond (pressed_in keys KEY_QUIT) (record { game = p.game; first = p.first; second = p.second; stands = QUIT })
    (cond (pressed_in keys NEW) (cutter_started draws time) p))
