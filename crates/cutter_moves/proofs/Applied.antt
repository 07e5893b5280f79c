-- What a step's numbers make of a state, rule by rule. Assumes nothing.
use mathlib.Core.Bool.{Bool, true, false, cond, false≢true}
use mathlib.Core.List.{List}
use mathlib.Core.Path.{◌≡◌, refl, sym, ap, ◌∙◌}
use Prim.Native.Nat.{ℕ}
use mir.Facts.{to_z-of_z}
use mir.Syntax.{w8}
use mir.Val.{SFits, to_z, of_z}
use lib.ListN.{set, get_or}
use lib.Seq.{set-get_or}
use Rattle.cutter_ground.specs.Cells.{cell_at, on_border}
use Rattle.cutter_state.specs.declared.Cutter.{Cutter}
use Rattle.cutter_state.specs.Change.{with_grid, with_trailing, killed}
use Rattle.cutter_rules.specs.Step.{player_cell, target, entered, laid, stopped, stepped, closes}
use Rattle.cutter_moves.specs.declared.player.Step.{Step}
use Rattle.cutter_moves.specs.CodeSteps.{playing, staying, stopping, dying, going, laying, shutting, closed_at, applied, does, Plays, Tells, SteppedOn}

-- the same, drawing
abbrev pub drawing : Step → Step
drawing s = record { px = s.px; py = s.py; dx = s.dx; dy = s.dy; trailing = true; dead = s.dead; closes = s.closes; at = s.at; code = s.code }

-- a choice, by its test
pub first-chosen : {A : Type 0} (b : Bool) (u v : A) → b ≡ true → u ≡ cond b u v
first-chosen true u v e = refl
first-chosen false u v e = absurd (false≢true e)

pub second-chosen : {A : Type 0} (b : Bool) (u v : A) → b ≡ false → v ≡ cond b u v
second-chosen true u v e = absurd (false≢true (sym e))
second-chosen false u v e = refl

-- the numbers that a step hands over are the player as it is
pub stays : (c : Cutter) → SFits w8 c.dx → SFits w8 c.dy
    → playing c.grid c.px c.py (to_z w8 (of_z w8 c.dx)) (to_z w8 (of_z w8 c.dy)) c.trailing c.dead ≡ staying c
stays c fx fy = simp (to_z-of_z fx, to_z-of_z fy) refl

-- what a step on the state's own ground, which is h then, makes of the state
module _ (c : Cutter) (s r : Step) (h : List ℕ) (d : SteppedOn c.grid c.enemies c.count s r h) (e : s ≡ staying c) where
  told : Tells c r (stepped c) (closes c) (target c)
  told = d.makes c (record { same = refl; stays = e }) refl refl

  -- it closes a cut where the rule does, at the rule's cell
  pub shuts : r.closes ≡ closes c
  shuts = told.shuts

  pub shuts_at : r.closes ≡ true → r.at ≡ target c
  shuts_at = told.there

  -- a cut is yet to be closed
  pub same-ground : r.closes ≡ true → h ≡ c.grid
  same-ground t = d.after ∙ sym (first-chosen r.closes c.grid (set c.grid r.at r.code) t)

  pub shut-made : r.closes ≡ true → closed_at c r.at ≡ stepped c
  shut-made t = first-chosen r.closes (closed_at c r.at) (applied c r) t ∙ told.makes

  -- the step closes nothing
  pub left-made : r.closes ≡ false → with_grid (applied c r) h ≡ stepped c
  left-made f =
      ap (with_grid (applied c r)) (d.after ∙ sym (second-chosen r.closes c.grid (set c.grid r.at r.code) f))
      ∙ second-chosen r.closes (closed_at c r.at) (applied c r) f
      ∙ told.makes

module _ {c : Cutter} {g : List ℕ} {s : Step} (p : Plays c g s) where
  -- a step that closes no cut, as the rule
  pub open_tells : {r : Step} {after : Cutter} {b : Bool} {t : ℕ} → r.closes ≡ s.closes → b ≡ false → does c r ≡ after → Tells c r after b t
  open_tells k f m =
      let z = k ∙ ap (λ (x : Step). x.closes) p.stays in
      record { makes = m; shuts = z ∙ sym f; there = λ e. absurd (false≢true (sym z ∙ e)) }

  -- the player's own cell keeps its code
  own : set c.grid (player_cell c) (get_or c.grid (player_cell c) 0) ≡ c.grid
  own = set-get_or c.grid (player_cell c) 0

  pub stayed : does c s ≡ c
  stayed = ap (does c) p.stays ∙ ap (with_grid c) own

  pub died : does c (dying s) ≡ killed c
  died = ap (λ (t : Step). does c (dying t)) p.stays ∙ ap (λ (l : List ℕ). killed (with_grid c l)) own

  pub turned : does c (stopping s) ≡ stopped c
  turned = ap (λ (t : Step). does c (stopping t)) p.stays ∙ ap (λ (l : List ℕ). stopped (with_grid c l)) own

  pub went : (t : ℕ) → does c (going s t) ≡ entered c t
  went t = ap (λ (q : Step). does c (going q t)) p.stays ∙ ap (λ (l : List ℕ). entered (with_grid c l) t) own

  pub drew : (t : ℕ) → does c (laying s t) ≡ laid c t
  drew t = ap (λ (q : Step). does c (laying q t)) p.stays

  pub began : (t : ℕ) → does c (drawing (laying s t)) ≡ with_trailing (laid c t) true
  began t = ap (λ (q : Step). does c (drawing (laying q t))) p.stays

  pub shut : (t : ℕ) → does c (shutting s t) ≡ closed_at c t
  shut t = ap (λ (q : Step). does c (shutting q t)) p.stays

  -- what the lent ground tells of the state's
  pub code : (t : ℕ) → cell_at c.grid t ≡ cell_at g t
  code t = ap (λ (l : List ℕ). cell_at l t) p.same

  pub beside : (t : ℕ) → on_border c.grid t ≡ on_border g t
  beside t = ap (λ (l : List ℕ). on_border l t) p.same
