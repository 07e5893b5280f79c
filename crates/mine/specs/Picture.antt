-- Document 01, 'The frame': the picture of a state, drawn into a lent frame.
use Rattle.std.specs.Prelude.{List, ℕ, eqb, length}
use Rattle.refusal.specs.Refusal.{Checked, NONE, FRAME, unless, ◌then◌, refused_or}
use Rattle.frame.specs.Frame.{FRAME_LEN, pack}
use Rattle.mine_state.specs.declared.Mine.{Mine}
use Rattle.mine_state.specs.WellFormed.{refusal_of}
use Rattle.mine_picture.specs.Picture.{mine_lit}

-- the refusal, and the frame after: its own bytes where the call is refused (the state's own, then 6 for a wrong length), the picture else
unfoldable pub picture_of : Mine → List ℕ → Checked × List ℕ
picture_of m frame = refused_or (refusal_of m then unless (eqb (length frame) FRAME_LEN) FRAME) (λ n. (n, frame)) (NONE, pack (mine_lit m))
