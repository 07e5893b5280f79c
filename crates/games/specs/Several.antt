-- Document 02 (iii): who is there, and how many.
use Rattle.std.specs.Prelude.{List, [], ◌∷◌, ◌≡◌, ℕ, eqb, None}
use Rattle.laws.specs.Lists.{count}
use Rattle.found.specs.First.{nobody, number}
use Rattle.found.specs.First.{At}
use Rattle.mine_state.specs.State as Mine
use Rattle.mine_state.specs.WellFormed.{Alone}
use Rattle.mine_state.specs.declared.Enemy.{Enemy}
use Rattle.mine.specs.Question as MineQuestion
use Rattle.cutter_ground.specs.Movers as Cutter
use Rattle.cutter_ground.specs.declared.Mover.{Mover}
use Rattle.cutter.specs.Question as CutterQuestion
use Rattle.cutter_state.specs.declared.Cutter.{Cutter}
use Rattle.cutter_state.specs.State.{creatures}
use Rattle.cutter_rules.specs.Level.{fresh_level}

-- a creature at (5,5) and three at (10,10)
abbrev pub four_draws : List ℕ
four_draws = 4 ∷ 4 ∷ 0 ∷ 0 ∷ 9 ∷ 9 ∷ 0 ∷ 1 ∷ 9 ∷ 9 ∷ 1 ∷ 0 ∷ 9 ∷ 9 ∷ 1 ∷ 1 ∷ []

pub record Several : Type 0 where
  -- the number is how many of the whole list are at the cell
  pub mine_number : (l : List Enemy) (x y : ℕ) → number (MineQuestion.who_at l x y) ≡ count (Mine.stands_at x y) l
  pub cutter_number : (l : List Mover) (x y : ℕ) → number (CutterQuestion.who_at l x y) ≡ count (Cutter.stands_at x y) l
  -- nobody where it is zero, and only there
  pub mine_nobody : (l : List Enemy) (x y : ℕ) → nobody (MineQuestion.who_at l x y) ≡ eqb (count (Mine.stands_at x y) l) 0
  pub cutter_nobody : (l : List Mover) (x y : ℕ) → nobody (CutterQuestion.who_at l x y) ≡ eqb (count (Cutter.stands_at x y) l) 0
  -- in a well-formed mine the number is never above 1
  pub alone : Alone
  -- a question's list is unchecked: two of Mine's on one cell
  pub twice : (e : Enemy) → MineQuestion.who_at (e ∷ e ∷ []) e.x e.y ≡ At 0 2
  -- in Cutter several share a cell: a fresh level of four creatures, three of them at (10,10)
  pub three : (c : Cutter) → c.level ≡ 4 → CutterQuestion.who_at (creatures (fresh_level c four_draws)) 10 10 ≡ At 1 3
  pub elsewhere : (c : Cutter) → c.level ≡ 4 → CutterQuestion.who_at (creatures (fresh_level c four_draws)) 11 10 ≡ None
