-- The walk as step and respawn make it. Assumes nothing.
use mathlib.Core.Bool.{Bool, true, false, cond, not, ◌&&◌}
use mathlib.Core.Path.{◌≡◌, refl, sym, ap, subst}
use Prim.Native.Nat.{ℕ, ◌/◌, ◌%◌}
use borrow.Author.Tests.{eqb-true, ltb-true}
use lib.Dec.{ltb}
use Rattle.laws.proofs.Choice.{and_left, and_right, and_three}
use Rattle.found.specs.First.{nobody}
use Rattle.cutter_ground.specs.Cells.{CW, CN, CB_FILLED, cell_at, claimed_at, place}
use Rattle.cutter_border.specs.Nearest.{Nearest}
use Rattle.cutter_border.proofs.Reaching.{claimed_in_lem}
use Rattle.cutter_border.proofs.Nearest.{nearest, taken}
use Rattle.cutter_border.proofs.Taken.{walk-cost}
use Rattle.cutter_border.proofs.Spellings.{nearest_unique, nearest-already, nearest-unreached}
use Rattle.cutter_state.specs.declared.Cutter.{Cutter}
use Rattle.cutter_state.specs.State.{creatures, line_in}
use Rattle.cutter_state.specs.WellFormed.{WellFormed}
use Rattle.cutter_rules.specs.Level.{at_start}
use Rattle.cutter_rules.specs.Step.{no_direction, player_cell, target, entered, cut_closed, at_border, stepped, back_at_start, respawned, creature_at, advances, closes}
use Rattle.cutter_rules.proofs.Step.{place-cell}
use Rattle.cutter_keeps.specs.Nearest.{Reappears, NearestKept}
use Rattle.cutter_keeps.proofs.Border.{standing}
use Rattle.cutter_keeps.proofs.Closing.{cut-closed}
use Rattle.cutter_keeps.proofs.Respawn.{erased_start}
use Rattle.cutter_rules.specs.Cost.{border_walked, step_walked, respawn_walked}
use Rattle.cutter_keeps.proofs.Steps.{closes-step}

-- wherever the move to the border is made
at_border_lem : (s : Cutter) → WellFormed s → s.trailing ≡ false → line_in s ≡ 0 → Reappears (player_cell s) (at_border s) (border_walked s)
unfolding at_border border_walked
at_border_lem s w e n =
    let g = s.grid in
    let a = player_cell s in
    let start = standing s w e in
    let inside = claimed_in_lem g a start in
    let b : Nearest g a (player_cell (at_border s)) = subst (Nearest g a) (sym (place-cell (nearest g a).0)) ((nearest g a).1 inside) in
    let took = (taken g a).1 inside in
    record {
      start = start;
      clear = n;
      nearest = b;
      only = λ c m. nearest_unique m b;
      already = λ h. nearest-already h b;
      unreached = λ u. nearest-unreached u b;
      cells = (taken g a).0;
      takes = took;
      many = refl;
      claimed = walk-cost.claimed g a (taken g a).0 start took;
      most = walk-cost.most g a (taken g a).0 inside took;
    }

closing-nearest : (c : Cutter) → WellFormed c → closes c ≡ true → Reappears (target c) (stepped c) (step_walked c)
unfolding closes advances cut_closed step_walked
closing-nearest c w e =
    let t = target c in
    let to = claimed_at c.grid t in
    let a = and_three (not (no_direction c)) (ltb t CN) (nobody (creature_at (creatures c) t)) (and_left (advances c) (c.trailing && to) e) in
    let k = eqb-true (cell_at c.grid t) CB_FILLED (and_right c.trailing to (and_right (advances c) (c.trailing && to) e)) in
    let d = cut-closed w t (ltb-true t CN a.1) k in
    let s = at_border (cut_closed (entered c t)) in
    let n = border_walked (cut_closed (entered c t)) in
    let b : Reappears (place (t % CW) (t / CW)) s n = at_border_lem (cut_closed (entered c t)) d.formed refl d.line in
    let m : n ≡ cond (closes c) n 0 = ap (λ (x : Bool). cond x n 0) (sym e) in
    subst (λ (x : Cutter). Reappears t x (cond (closes c) n 0)) (sym (closes-step c e))
    (subst (Reappears t s) m (subst (λ (x : ℕ). Reappears x s n) (place-cell t) b))

respawn-nearest : (c : Cutter) → WellFormed c → Reappears (place (CW / 2) 0) (respawned c) (respawn_walked c)
unfolding respawned respawn_walked at_start
respawn-nearest c w = let e = erased_start c w in at_border_lem (back_at_start c) e.formed refl e.line

pub nearest-kept : NearestKept
nearest-kept = record { closing = closing-nearest; respawn = respawn-nearest }
