-- A cut closed by sweeps is the cut closed. Assumes nothing.
use mathlib.Core.Bool.{false, cond}
use mathlib.Core.List.{List}
use mathlib.Core.Path.{◌≡◌, refl, sym, ap, ◌∙◌}
use Prim.Native.Nat.{ℕ}
use lib.ListN.{length}
use Rattle.laws.proofs.Choice.{cond_both}
use Rattle.cutter_ground.specs.Cells.{CN}
use Rattle.cutter_ground.specs.declared.Mover.{Mover}
use Rattle.cutter_sweeps.specs.Sweeps.{Settled}
use Rattle.cutter_sweeps.proofs.Low.{settled, settled-right}
use Rattle.cutter_closing.specs.Counted.{MAX_COMP}
use Rattle.cutter_closing.specs.Closing.{claim_line, closed, close_cut}
use Rattle.cutter_closing.specs.declared.Cut.{Cut}
use Rattle.cutter_closing.proofs.Labels.{length-claim_line_lem, closing_by}
use Rattle.cutter_state.specs.declared.Cutter.{Cutter}
use Rattle.cutter_state.specs.State.{creatures}
use Rattle.cutter_state.specs.Change.{with_grid, with_creatures, with_trailing}
use Rattle.cutter_rules.specs.Step.{target, entered, cut_closed, at_border, stepped, closes}
use Rattle.cutter_keeps.proofs.Steps.{closes-step}
use Rattle.cutter_rules.specs.Sweeps.{cut_swept, swept_step}
use Rattle.cutter_rules.specs.Cost.{border_walked, step_walked, swept_walked}

-- by any settled numbers, for every limit
pub swept-closed : (limit : ℕ) (g L : List ℕ) (es : List Mover) → length g ≡ CN → Settled (claim_line g) L → closed limit (claim_line g) L es ≡ close_cut limit g es
swept-closed limit g L es long s = sym (closing_by limit g L es long (settled-right (length-claim_line_lem g ∙ long) s))

cut-swept : (c : Cutter) → length c.grid ≡ CN → cut_swept c ≡ cut_closed c
unfolding cut_swept cut_closed
cut-swept c long =
    let line = settled (claim_line c.grid) in
    ap (λ (cut : Cut). with_trailing (with_creatures (with_grid c cut.grid) cut.enemies cut.count) false)
    (swept-closed MAX_COMP c.grid line.0 (creatures c) long (line.1 (length-claim_line_lem c.grid ∙ long)))

pub swept_step_lem : (c : Cutter) → length c.grid ≡ CN → swept_step c ≡ stepped c
unfolding swept_step
swept_step_lem c long =
    cond_both (λ s. s ≡ stepped c) (closes c) (at_border (cut_swept (entered c (target c)))) (stepped c)
    (λ e. ap at_border (cut-swept (entered c (target c)) long) ∙ sym (closes-step c e))
    (λ _. refl)

-- and the walk after it takes as many cells
pub swept-walked : (c : Cutter) → length c.grid ≡ CN → swept_walked c ≡ step_walked c
unfolding swept_walked step_walked
swept-walked c long = ap (λ (s : Cutter). cond (closes c) (border_walked s) 0) (cut-swept (entered c (target c)) long)
