-- For the code alone: what drawing asks of a state and a frame.
use Rattle.std.specs.Prelude.{List, ◌≡◌, length, ℕ}
use Rattle.cutter_state.specs.declared.Cutter.{Cutter}
use Rattle.frame.specs.Frame.{FRAME_LEN}
use Rattle.cutter_state.specs.WellFormed.{WellFormed}

-- what the picture needs of a state and a frame
pub record Drawable (c : Cutter) (frame : List ℕ) : Type 0 where
  pub formed : WellFormed c
  pub whole : length frame ≡ FRAME_LEN
