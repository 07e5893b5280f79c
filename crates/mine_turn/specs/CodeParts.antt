-- What the keys of a pass ask of the lent parts of a state, and what they do to them. No promise cites it.
use Rattle.std.specs.Prelude.{Bool, List, ◌≡◌, ℕ, length}
use Rattle.mine_state.specs.State.{MAX_ENEMIES}
use Rattle.mine_state.specs.WellFormed.{WellFormed}
use Rattle.mine_state.specs.declared.Enemy.{Enemy}
use Rattle.mine_apart.specs.CodeApart.{Spotted}
use Rattle.mine_moves.specs.declared.moves.Player.{Player}
use Rattle.mine_moves.specs.CodeSteps.{playing}
use Rattle.mine_turn.specs.declared.Pressed.{Pressed}
use Rattle.mine_pass.specs.Pass.{keyed, played}

-- with some marks and creatures at the lent places the lent parts are a well-formed state
pub record Ready (g spots : List ℕ) (p : Player) : Type 0 where
  pub marks : List Bool
  pub them : List Enemy
  pub many : ℕ
  pub slots : length spots ≡ MAX_ENEMIES
  pub spotted : Spotted them many spots
  pub formed : WellFormed (playing marks g them many p)

-- whatever the marks and the creatures at the lent places, a key makes this grid and this of the player
abbrev pub Keyed : List ℕ → List ℕ → Player → ℕ → List ℕ → Player → Type 0
Keyed g spots p key g' r = (f : List Bool) (es : List Enemy) (n : ℕ) → Spotted es n spots → keyed (playing f g es n p) key ≡ playing f g' es n r

-- and all keys
abbrev pub Plays : List ℕ → List ℕ → Player → List ℕ → List ℕ → Pressed → Type 0
Plays g spots p keys g' r = (f : List Bool) (es : List Enemy) (n : ℕ) → Spotted es n spots
    → played (playing f g es n p) keys ≡ record { quit = r.quit; game = playing f g' es n r.player }
