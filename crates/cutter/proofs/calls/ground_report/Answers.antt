use mathlib.Core.Path.{sym, subst, ◌∙◌}
use Prim.Native.Nat.{ℕ, ◌≤◌}
use Rattle.refusal.proofs.Calls.{ok_zero}
use Rattle.cutter_state.proofs.Facts.{accepted}
use Rattle.cutter_keeps.proofs.Inner.{claimed-least}
use Rattle.cutter_ground.specs.Cells.{RING}
use Rattle.cutter.proofs.calls.ground_report.Goals as goal

pub share_of-requires : goal.share_of-requires
share_of-requires c =
    let s = c.args.c in
    let w = accepted s (ok_zero (sym c.check.ensures ∙ c.in_default.is)) in
    subst (λ (m : ℕ). RING ≤ m) (sym c.count_of-claimed.ensures) (claimed-least s w)
