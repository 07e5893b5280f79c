-- The player's step: directions, and what a closing asks. Assumes nothing.
use mathlib.Core.Bool.{true, false}
use mathlib.Core.List.{List}
use mathlib.Core.Path.{◌≡◌, refl, sym, ap, ap₂, ◌∙◌}
use Prim.Native.Nat.{ℕ, zero, suc, ◌≤◌, ◌<◌, ◌/◌, ◌%◌}
use native.Mathlib.Omega.{arith}
use lib.IntN.{pos, negsuc}
use lib.Dec.{lit<}
use lib.ListN.{length}
use borrow.Author.Tests.{lt-ltb, eqb-true}
use Rattle.laws.proofs.Lists.{all_weaken}
use Rattle.cutter_joined.proofs.Joined.{black_in_lem}
use Rattle.cutter_ground.specs.Cells.{CW, CN, CB_BLACK, cell_at, place}
use Rattle.cutter_ground.specs.declared.Mover.{Mover}
use Rattle.cutter_closing.specs.Counted.{MAX_COMP}
use Rattle.cutter_closing.specs.Closing.{close_cut}
use Rattle.cutter_closing.specs.Cost.{searched_of}
use Rattle.cutter_closing.specs.declared.Cut.{Cut}
use Rattle.cutter_closing.proofs.Sums.{length-after}
use Rattle.cutter_capture.specs.CodeSteps.{inside, Closable, Closes}
use Rattle.cutter_border.specs.CodeBorder.{to_border}
use Rattle.cutter_border.specs.CodeTables.{Standing}
use Rattle.cutter_border.specs.declared.Walked.{Walked}
use Rattle.cutter_border.proofs.Nearest.{nearest, taken, walk_at, walk_took, took_few}
use Rattle.cutter_state.specs.declared.Cutter.{Cutter}
use Rattle.cutter_state.specs.State.{creatures}
use Rattle.cutter_state.specs.Change.{with_grid, with_creatures, with_trailing}
use Rattle.cutter_state.specs.WellFormed.{mover_ok, footing, WellFormed}
use Rattle.cutter_state.proofs.Ring.{holds-inside}
use Rattle.cutter_rules.specs.Step.{unit_x, unit_y, target, entered, cut_closed, at_border, stepped, closes}
use Rattle.cutter_rules.specs.Cost.{border_walked, step_searched, step_walked, step_made, swept_made}
use Rattle.cutter_keeps.proofs.Cost.{cost-kept}
use Rattle.cutter_keeps.proofs.Sweeps.{swept_step_lem, swept-walked}
use Rattle.cutter_rules.specs.declared.Made.{Made}
use Rattle.cutter_rules.proofs.Apart.{mover_black}
use Rattle.cutter_rules.proofs.Step.{place-cell}
use Rattle.cutter_moves.specs.CodeMoves.{OnGrid}
use Rattle.cutter_moves.specs.declared.player.Step.{Step}
use Rattle.cutter_moves.specs.CodeSteps.{staying, closed_at, applied, SteppedOn}
use Rattle.cutter_moves.proofs.Applied.{first-chosen, same-ground, shuts, shuts_at, shut-made, left-made}
use Rattle.cutter_ground.specs.Movers.{place_of}

-- past 2 the unit step is left
pub left_else : (d : ℕ) → (d ≡ 0 → ⊥) → (d ≡ 1 → ⊥) → (d ≡ 2 → ⊥) → (unit_x d ≡ negsuc 0) × (unit_y d ≡ pos 0)
unfolding unit_x unit_y
left_else zero a b c = absurd (a refl)
left_else (suc zero) a b c = absurd (b refl)
left_else (suc (suc zero)) a b c = absurd (c refl)
left_else (suc (suc (suc d))) a b c = (refl, refl)

-- a creature on black is on the grid
inside_grid : (g : List ℕ) (e : Mover) → length g ≡ CN → mover_ok g e ≡ true → inside e ≡ true
inside_grid g e h m = lt-ltb (place_of e) CN (omega (arith, black_in_lem g (place_of e) (eqb-true (cell_at g (place_of e)) CB_BLACK (mover_black g e m))))

-- a well-formed state can be closed
closable : (c : Cutter) → WellFormed c → Closable c.enemies c.count
closable c w =
    record {
      few = w.few;
      on_grid = all_weaken (mover_ok c.grid) inside (λ e m. inside_grid c.grid e w.cells m) (creatures c) w.each;
    }

-- the player of a well-formed state is on the grid
pub on_grid_lem : (c : Cutter) → WellFormed c → OnGrid c.px c.py
on_grid_lem c w = let h = holds-inside c.grid (footing c.trailing) c.px c.py w.player in record { across = h.0; down = h.1 }

-- a state whose cut is closed
abbrev shut : Cutter → Cut → Cutter
shut c cut = with_trailing (with_creatures (with_grid c cut.grid) cut.enemies cut.count) false

-- a step that closes at the cell t: the cut closed, and where the walk from t ends
closed_at_lem : (c : Cutter) (t : ℕ) → t < CN → (cut : Cut) (end : ℕ) → cut ≡ close_cut MAX_COMP c.grid (creatures c) → end ≡ (to_border cut.grid t).at
    → entered (shut c cut) end ≡ closed_at c t
unfolding cut_closed at_border
closed_at_lem c t h cut end e f =
    ap (entered (shut c cut)) (f ∙ walk_at cut.grid t h ∙ ap (λ (n : ℕ). (nearest cut.grid n).0) (sym (place-cell t)))
    ∙ ap (λ (k : Cut). entered (shut c k) (nearest k.grid (place (t % CW) (t / CW))).0) e

pub made-same : {g g' : Cutter} {n n' k k' : ℕ} → g ≡ g' → n ≡ n' → k ≡ k'
    → ◌≡◌ {A = Made} (record { game = g; searched = n; walked = k }) (record { game = g'; searched = n'; walked = k' })
made-same e f h = rw (e, f, h)

-- a step on the state's own ground, which is h then, at which a cut is yet to be closed
module _ (c : Cutter) (w : WellFormed c) (s r : Step) (h : List ℕ) (d : SteppedOn c.grid c.enemies c.count s r h) (e : s ≡ staying c) (t : r.closes ≡ true) where
  same : h ≡ c.grid
  same = same-ground c s r h d e t

  pub shut-closes : Closes h c.enemies c.count MAX_COMP
  shut-closes = record { cells = ap length same ∙ w.cells; closable = closable c w; some = lit< tt }

  closing : closes c ≡ true
  closing = sym (shuts c s r h d e) ∙ t

  searched : (n : ℕ) → n ≡ searched_of MAX_COMP h → n ≡ step_searched c
  unfolding step_searched
  searched n k = k ∙ ap (searched_of MAX_COMP) same ∙ first-chosen (closes c) (searched_of MAX_COMP c.grid) 0 closing

  -- the cut closed
  module _ (cut : Cut) (k : cut ≡ close_cut MAX_COMP h (creatures c)) where
    own : cut ≡ close_cut MAX_COMP c.grid (creatures c)
    own = k ∙ ap (λ (g : List ℕ). close_cut MAX_COMP g (creatures c)) same

    pub shut-standing : Standing cut.grid r.at
    shut-standing = record { cells = ap (λ (x : Cut). length x.grid) own ∙ length-after MAX_COMP c.grid (creatures c) w.cells; inside = d.inside }

    -- and the walk after it
    module _ (end : Walked) (f : end ≡ to_border cut.grid r.at) where
      pub walk-few : end.taken ≤ CN
      walk-few = omega (arith, ap (λ (x : Walked). x.taken) f, took_few cut.grid r.at d.inside)

      shut-step : entered (shut c cut) end.at ≡ stepped c
      shut-step = closed_at_lem c r.at d.inside cut end.at own (ap (λ (x : Walked). x.at) f) ∙ shut-made c s r h d e t

      shut-walked : end.taken ≡ step_walked c
      unfolding step_walked border_walked cut_closed
      shut-walked =
          ap (λ (x : Walked). x.taken) f
          ∙ walk_took cut.grid r.at d.inside
          ∙ ap₂ (λ (x : Cut) (n : ℕ). length (taken x.grid n).0) own (shuts_at c s r h d e t ∙ sym (place-cell (target c)))
          ∙ first-chosen (closes c) (border_walked (cut_closed (entered c (target c)))) 0 closing

      pub shut-makes : (n : ℕ) → n ≡ searched_of MAX_COMP h → record { game = entered (shut c cut) end.at; searched = n; walked = end.taken } ≡ step_made c
      shut-makes n l = made-same shut-step (searched n l) shut-walked

-- a step that closes nothing takes no cell
module _ (c : Cutter) (s r : Step) (h : List ℕ) (d : SteppedOn c.grid c.enemies c.count s r h) (e : s ≡ staying c) (f : r.closes ≡ false) where
  left-closes : closes c ≡ false
  left-closes = sym (shuts c s r h d e) ∙ f

  pub left-makes : record { game = with_grid (applied c r) h; searched = 0; walked = 0 } ≡ step_made c
  left-makes = let n = cost-kept.none c left-closes in made-same (left-made c s r h d e f) (sym n.0) (sym n.1)

-- by sweeps a step makes the same, and nothing is searched
pub sweeps-make : (c : Cutter) → length c.grid ≡ CN → (g : Cutter) (n k : ℕ) → record { game = g; searched = n; walked = k } ≡ step_made c
    → record { game = g; searched = 0; walked = k } ≡ swept_made c
sweeps-make c long g n k e =
    made-same (ap (λ (m : Made). m.game) e ∙ sym (swept_step_lem c long)) refl (ap (λ (m : Made). m.walked) e ∙ sym (swept-walked c long))
