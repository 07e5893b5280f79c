-- The page that start and length give is the page of the frame. Assumes nothing.
use mathlib.Core.Bool.{◌&&◌}
use mathlib.Core.List.{List}
use mathlib.Core.Logic.{⊎_elim}
use mathlib.Core.Path.{◌≡◌}
use Prim.Native.Nat.{ℕ}
use lib.Dec.{eqb, ltb}
use lib.ListN.{length, take, drop}
use Rattle.laws.proofs.Choice.{bool_cases}
use Rattle.frame.specs.Frame.{PAGES, FRAME_LEN, page_of}
use Rattle.host.specs.Plain.{page_at}

pub page_part : (frame : List ℕ) (p : ℕ) → take (page_at (length frame) p).length (drop (page_at (length frame) p).start frame) ≡ page_of frame p
unfolding page_at page_of
page_part frame p = ⊎_elim (λ t. rw t) (λ f. rw f) (bool_cases (eqb (length frame) FRAME_LEN && ltb p PAGES))
