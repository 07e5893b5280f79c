-- For the code alone: what drawing asks of a state and a frame.
use Rattle.std.specs.Prelude.{List, ◌≡◌, ◌≤◌, ℕ, length}
use Rattle.frame.specs.Frame.{FRAME_LEN}
use Rattle.mine_state.specs.State.{MAX_ENEMIES}
use Rattle.mine_state.specs.declared.Mine.{Mine}

-- what the picture needs of a state and a frame
pub record Drawable (m : Mine) (frame : List ℕ) : Type 0 where
  pub few : m.count ≤ MAX_ENEMIES
  pub whole : length frame ≡ FRAME_LEN
