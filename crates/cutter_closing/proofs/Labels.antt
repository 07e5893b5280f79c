-- A closing by any right labelling. Assumes nothing.
use mathlib.Core.List.{List}
use mathlib.Core.Path.{◌≡◌, ap, ◌∙◌}
use Prim.Native.Nat.{ℕ}
use lib.ListN.{length, length-map}
use Rattle.cutter_ground.specs.Cells.{CN}
use Rattle.cutter_ground.specs.declared.Mover.{Mover}
use Rattle.cutter_joined.specs.Joined.{Right}
use Rattle.cutter_joined.proofs.Joined.{right_unique}
use Rattle.cutter_joined.proofs.Labels.{labels}
use Rattle.cutter_closing.specs.Closing.{claim_line, line_claimed, closed, close_cut}

pub length-claim_line_lem : (g : List ℕ) → length (claim_line g) ≡ length g
length-claim_line_lem g = length-map g line_claimed

-- the closing by any right labelling of the grid whose line is claimed
pub closing_by : (limit : ℕ) (g L : List ℕ) (es : List Mover) → length g ≡ CN → Right (claim_line g) L → close_cut limit g es ≡ closed limit (claim_line g) L es
unfolding close_cut
closing_by limit g L es len R = ap (λ (M : List ℕ). closed limit (claim_line g) M es) (right_unique ((labels (claim_line g)).1 (length-claim_line_lem g ∙ len)) R)
