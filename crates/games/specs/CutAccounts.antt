-- What the accounts say of P9 and P11, played by calls: a fresh level, a direction and 31 steps.
use Rattle.std.specs.Prelude.{true, List, [], ◌∷◌, ◌≡◌, ℕ, replicate}
use Rattle.cutter_state.specs.WellFormed.{WellFormed}
use Rattle.games.specs.CutterCalls.{CutterCall, Round, Level, Direction, Step, Play, called, goes_on, claims, loses}
use Rattle.controls.specs.Keys.{DOWN}

abbrev pub cut_calls : List CutterCall
cut_calls = Direction DOWN ∷ replicate 31 Step

-- no call starts a level, so many cells are claimed, and so many creatures are lost
abbrev pub Account : ℕ → ℕ → Play → Type 0
Account more fewer p = (goes_on p cut_calls ≡ true) × (claims p cut_calls ≡ more) × (loses p cut_calls ≡ fewer)

pub record CutAccounts : Type 0 where
  -- a new round, creature (10,10): 30 line cells and 900 on the right, and no creature
  pub p9 : (p : Play) → Account 930 0 (called p (Round (9 ∷ 9 ∷ 1 ∷ 1 ∷ []))).play
  -- a fresh level 2, one creature on each side: as many cells, and the creature on the right
  pub p11 : (p : Play) → WellFormed p.game → p.game.level ≡ 2 → Account 930 1 (called p (Level (9 ∷ 9 ∷ 1 ∷ 1 ∷ 49 ∷ 9 ∷ 1 ∷ 1 ∷ []))).play
