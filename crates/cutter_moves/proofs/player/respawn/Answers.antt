use lib.Dec.{lit<}
use lib.ListN.{length, length-map}
use mathlib.Core.List.{map}
use mathlib.Core.Path.{◌≡◌, refl, sym, ap, subst, ◌∙◌}
use Prim.Native.Nat.{◌+◌, ◌*◌, ◌≤◌, ◌<◌}
use native.Mathlib.Omega.{arith}
use borrow.Author.Rules.{rules}
use Rattle.cutter_ground.specs.Cells.{CW, CN}
use Rattle.cutter_border.specs.declared.Walked.{Walked}
use Rattle.cutter_border.proofs.Nearest.{walk_at, walk_took, took_few}
use Rattle.cutter_state.specs.declared.Cutter.{Cutter}
use Rattle.cutter_state.specs.Change.{with_grid}
use Rattle.cutter_rules.specs.Level.{at_start}
use Rattle.cutter_rules.specs.Step.{entered, line_erased, at_border, respawned}
use Rattle.cutter_rules.specs.Cost.{border_walked, respawn_walked}
use Rattle.cutter_moves.proofs.Stepping.{made-same}
use Rattle.cutter_moves.proofs.player.respawn.Goals as goal

pub overflow_mul-at : goal.overflow_mul-at
unfolding at_start
overflow_mul-at c = rw c.at_start-out.ensures (search rules)

pub overflow_add-at : goal.overflow_add-at
unfolding at_start
overflow_add-at c = rw c.at_start-out.ensures (search rules)

pub move_to_border-end-requires : goal.move_to_border-end-requires
unfolding at_start
move_to_border-end-requires c =
    let l : length c.args.c.grid ≡ CN = search rules in
    record {
      cells = ap length c.recode_line.ensures ∙ length-map c.at_start-out.result.grid line_erased ∙ ap (λ (k : Cutter). length k.grid) c.at_start-out.ensures ∙ l;
      inside = rw c.at_start-out.ensures (lit< tt);
    }

pub overflow_cast-result : goal.overflow_cast-result
unfolding at_start
overflow_cast-result c =
    let inside : c.at_start-out.result.py * CW + c.at_start-out.result.px < CN = rw c.at_start-out.ensures (lit< tt) in
    let few : c.move_to_border-end.result.taken ≤ CN = subst (λ (x : Walked). x.taken ≤ CN) (sym c.move_to_border-end.ensures) (took_few _ _ inside) in
    omega arith

pub returns : goal.returns
unfolding at_start respawned respawn_walked border_walked at_border
returns c =
    let g = map line_erased c.args.c.grid in
    let start = entered (with_grid (at_start c.args.c) g) in
    simp (c.move_to_border-end.ensures, c.recode_line.ensures, c.at_start-out.ensures)
    (made-same (ap start (walk_at g 32 (lit< tt))) refl (walk_took g 32 (lit< tt)))
