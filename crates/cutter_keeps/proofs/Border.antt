-- The move to the border, from a state that isn't trailing, keeps it well formed, and its numbers. Assumes nothing.
use mathlib.Core.Bool.{Bool, true, false}
use mathlib.Core.Path.{◌≡◌, subst}
use native.Mathlib.Omega.{arith}
use Rattle.cutter_ground.specs.Cells.{CB_FILLED}
use Rattle.cutter_border.specs.Walks.{claimed_cell}
use Rattle.cutter_border.proofs.Reaching.{claimed_in_lem, claimed_code, code_claimed}
use Rattle.cutter_border.proofs.Spellings.{nearest-claimed}
use Rattle.cutter_border.proofs.Nearest.{nearest}
use Rattle.cutter_state.specs.declared.Cutter.{Cutter}
use Rattle.cutter_state.specs.State.{holds_at}
use Rattle.cutter_state.specs.WellFormed.{footing, WellFormed}
use Rattle.cutter_state.proofs.Ring.{holds-inside, holds_code}
use Rattle.cutter_rules.specs.Step.{player_cell, at_border}
use Rattle.cutter_keeps.specs.Kept.{Kept}
use Rattle.cutter_keeps.proofs.Changes.{kept_self, kept-player}
use Rattle.cutter_keeps.proofs.Creatures.{cell_holds}

-- a player that isn't trailing stands on a claimed cell
pub standing : (s : Cutter) → WellFormed s → s.trailing ≡ false → claimed_cell s.grid (player_cell s) ≡ true
standing s w e =
    let g = s.grid in
    let p : holds_at g CB_FILLED s.px s.py ≡ true = subst (λ (b : Bool). holds_at g (footing b) s.px s.py ≡ true) e w.player in
    let i = holds-inside g CB_FILLED s.px s.py p in
    code_claimed g (player_cell s) (omega arith) (holds_code g CB_FILLED s.px s.py p)

pub border_kept : (s : Cutter) → WellFormed s → s.trailing ≡ false → Kept s (at_border s)
unfolding at_border
border_kept s w e =
    let g = s.grid in
    let start = standing s w e in
    let to = (nearest g (player_cell s)).0 in
    let there = nearest-claimed start ((nearest g (player_cell s)).1 (claimed_in_lem g (player_cell s) start)) in
    kept-player (kept_self w) _ _ (rw e (cell_holds g CB_FILLED to (claimed_in_lem g to there) (claimed_code g to there)))
