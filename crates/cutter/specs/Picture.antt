-- Document 01, 'The frame': the picture of a state, drawn into a lent frame.
use Rattle.std.specs.Prelude.{List, ℕ, eqb, length}
use Rattle.refusal.specs.Refusal.{Checked, NONE, FRAME, unless, ◌then◌, refused_or}
use Rattle.frame.specs.Frame.{FRAME_LEN, pack}
use Rattle.cutter_state.specs.declared.Cutter.{Cutter}
use Rattle.cutter_state.specs.WellFormed.{refusal_of}
use Rattle.cutter_picture.specs.Picture.{cut_lit}

-- the refusal, and the frame after: its own bytes where the call is refused (the state's own, then 6 for a wrong length), the picture else
unfoldable pub picture_of : Cutter → List ℕ → Checked × List ℕ
picture_of c frame = refused_or (refusal_of c then unless (eqb (length frame) FRAME_LEN) FRAME) (λ n. (n, frame)) (NONE, pack (cut_lit c))
