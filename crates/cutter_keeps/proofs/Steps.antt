-- The player's step: it closes a cut, lays line, or leaves the numbers as they are. Assumes nothing.
use Rattle.std.specs.Prelude.{None, Option, Some}
use mathlib.Core.Bool.{Bool, true, false, not, ◌&&◌, true≢false}
use mathlib.Core.List.{List}
use mathlib.Core.Logic.{⊎_elim}
use mathlib.Core.Path.{◌≡◌, refl, sym, ◌∙◌, ap}
use Prim.Native.Nat.{ℕ, ◌<◌}
use native.Mathlib.Omega.{arith}
use lib.Dec.{eqb, leb, ltb}
use lib.IntN.{pos}
use borrow.Author.Tests.{eqb-true, eqb-false, leb-true, leb-false, ltb-true, lt-leb, lt-ltb, le-ltb, not-true}
use Rattle.laws.specs.Lists.{any}
use Rattle.laws.proofs.Choice.{cond_both, bool_cases, and_left, and_right, and_three}
use Rattle.laws.proofs.Lists.{all_at, any_at}
use Rattle.found.specs.First.{nobody}
use Rattle.found.specs.declared.Found.{Found}
use Rattle.found.proofs.First.{nobody-any}
use Rattle.cutter_ground.specs.Cells.{CN, CB_BLACK, CB_FILLED, CB_TRAIL, cell_at, on_border, line_at, claimed_at}
use Rattle.cutter_state.specs.declared.Cutter.{Cutter}
use Rattle.cutter_state.specs.State.{creatures}
use Rattle.cutter_state.specs.WellFormed.{is_code, is_trail, WellFormed}
use Rattle.cutter_rules.specs.Step.{no_direction, target, trailing_step, walking_step, met, stepped, creature_at, advances, closes}
use Rattle.cutter_keeps.specs.Kept.{Kept, Laid, Closed}
use Rattle.cutter_keeps.specs.Steps.{ClosesStep, lays, taken_by, gone_by, Stepped}
use Rattle.cutter_keeps.proofs.Changes.{kept_self, kept-player, kept-direction, kept_dead}
use Rattle.cutter_keeps.proofs.Closing.{closing}
use Rattle.cutter_keeps.proofs.Creatures.{cell_holds}
use Rattle.cutter_keeps.proofs.Laying.{laying}
use Rattle.cutter_ground.specs.Movers.{place_of}

-- ---- which of the three it is

differ : {b : Bool} → b ≡ true → b ≡ false → ⊥
differ e f = true≢false (sym e ∙ f)

module _ {c s : Cutter} where
  as_closed : closes c ≡ true → lays c ≡ false → Closed c s (taken_by c) (gone_by c) → Stepped c s
  as_closed a b k = record { closing = λ _. k; laying = λ e. absurd (differ e b); other = λ e _. absurd (differ a e) }

  as_laid : closes c ≡ false → lays c ≡ true → Laid c s → Stepped c s
  as_laid a b k = record { closing = λ e. absurd (differ e a); laying = λ _. k; other = λ _ e. absurd (differ b e) }

  as_kept : closes c ≡ false → lays c ≡ false → Kept c s → Stepped c s
  as_kept a b k = record { closing = λ e. absurd (differ e a); laying = λ e. absurd (differ e b); other = λ _ _. k }

  -- where the player doesn't advance
  halted : advances c ≡ false → Kept c s → Stepped c s
  unfolding closes lays
  halted a k = as_kept (rw a) (rw a) k

-- ---- the cell ahead

module _ {c : Cutter} (w : WellFormed c) where
  abbrev g : List ℕ
  g = c.grid

  abbrev t : ℕ
  t = target c

  -- what is neither line nor claimed is black
  black_else : line_at g t ≡ false → claimed_at g t ≡ false → cell_at g t ≡ CB_BLACK
  black_else l f =
      let k = leb-true (cell_at g t) CB_TRAIL (all_at is_code g t CB_FILLED w.codes refl) in
      omega (arith, eqb-false (cell_at g t) CB_TRAIL l, eqb-false (cell_at g t) CB_FILLED f)

  -- no line where the player isn't trailing
  no_line : c.trailing ≡ false → t < CN → line_at g t ≡ false
  no_line e h = ⊎_elim (λ l. absurd (differ (any_at is_trail g t CB_FILLED (omega (arith, w.cells)) l) (w.line ∙ e))) (λ l. l) (bool_cases (line_at g t))

  module _ (on : advances c ≡ true) (h : t < CN) where
    closes_at : (b : Bool) (k : ℕ) → c.trailing ≡ b → cell_at g t ≡ k → closes c ≡ (b && eqb k CB_FILLED)
    unfolding closes
    closes_at b k e f = rw (on, e, f)

    lays_at : (k : ℕ) → cell_at g t ≡ k → lays c ≡ eqb k CB_BLACK
    unfolding lays
    lays_at k f = rw (on, f)

    module _ (n : any (λ e. eqb (place_of e) t) (creatures c) ≡ false) where
      trailing_stepped : c.trailing ≡ true → Stepped c (trailing_step c t)
      unfolding trailing_step
      trailing_stepped e =
          cond_both (Stepped c) (line_at g t) _ _
          (λ l. let k = eqb-true (cell_at g t) CB_TRAIL l in as_kept (closes_at true CB_TRAIL e k) (lays_at CB_TRAIL k) (kept_dead (kept_self w) true))
          (λ l. cond_both (Stepped c) (claimed_at g t) _ _
          (λ f. let k = eqb-true (cell_at g t) CB_FILLED f in as_closed (closes_at true CB_FILLED e k) (lays_at CB_FILLED k) (closing w t h k))
          (λ f. let k = black_else l f in as_laid (closes_at true CB_BLACK e k) (lays_at CB_BLACK k) (laying w t c.trailing h e k n)))

      walking_stepped : c.trailing ≡ false → Stepped c (walking_step c t)
      unfolding walking_step
      walking_stepped e =
          cond_both (Stepped c) (claimed_at g t) _ _
          (λ f. let k = eqb-true (cell_at g t) CB_FILLED f in
          cond_both (Stepped c) (on_border g t) _ _
          (λ _. as_kept (closes_at false CB_FILLED e k) (lays_at CB_FILLED k) (kept-player (kept_self w) _ _ (rw e (cell_holds g CB_FILLED t h k))))
          (λ _. as_kept (closes_at false CB_FILLED e k) (lays_at CB_FILLED k) (kept-direction (kept_self w) (pos 0) (pos 0) refl)))
          (λ f. let k = black_else (no_line e h) f in as_laid (closes_at false CB_BLACK e k) (lays_at CB_BLACK k) (laying w t true h refl k n))

  advances_by : no_direction c ≡ false → (b : Bool) (f : Option Found) → ltb t CN ≡ b → creature_at (creatures c) t ≡ f → advances c ≡ (b && nobody f)
  unfolding advances
  advances_by d b f p q = rw (d, p, q)

  met-stepped : (f : Option Found) → no_direction c ≡ false → t < CN → creature_at (creatures c) t ≡ f → Stepped c (met f c t)
  unfolding met
  met-stepped (Some f) d h q = halted (advances_by d true (Some f) (lt-ltb t CN h) q) (kept_dead (kept_self w) true)
  met-stepped None d h q =
      let on = advances_by d true None (lt-ltb t CN h) q in
      let n = not-true (any (λ e. eqb (place_of e) t) (creatures c)) (sym (nobody-any (λ e. eqb (place_of e) t) (creatures c)) ∙ ap nobody q) in
      cond_both (Stepped c) c.trailing _ _ (λ e. trailing_stepped on h n e) (λ e. walking_stepped on h n e)

none-advances : (c : Cutter) → no_direction c ≡ true → advances c ≡ false
unfolding advances
none-advances c d = rw d

pub step-stepped : (c : Cutter) → WellFormed c → Stepped c (stepped c)
unfolding stepped
step-stepped c w =
    cond_both (Stepped c) (no_direction c) _ _
    (λ d. halted (none-advances c d) (kept_self w))
    (λ d. cond_both (Stepped c) (leb CN (target c)) _ _
    (λ l. halted (advances_by w d false (creature_at (creatures c) (target c)) (le-ltb (target c) CN (leb-true CN (target c) l)) refl)
    (kept-direction (kept_self w) (pos 0) (pos 0) refl))
    (λ l. met-stepped w (creature_at (creatures c) (target c)) d (leb-false CN (target c) l) refl))

-- ---- a step that closes is what document 01 says of it

found_nobody : (f : Option Found) → nobody f ≡ true → f ≡ None
found_nobody (Some f) e = absurd (true≢false (sym e))
found_nobody None e = refl

pub closes-step : ClosesStep
unfolding closes advances stepped met trailing_step
closes-step c e =
    let f = creature_at (creatures c) (target c) in
    let a = and_three (not (no_direction c)) (ltb (target c) CN) (nobody f) (and_left (advances c) (c.trailing && claimed_at c.grid (target c)) e) in
    let r = and_right (advances c) (c.trailing && claimed_at c.grid (target c)) e in
    let k = eqb-true (cell_at c.grid (target c)) CB_FILLED (and_right c.trailing (claimed_at c.grid (target c)) r) in
    rw (not-true (no_direction c) a.0, lt-leb CN (target c) (ltb-true (target c) CN a.1), found_nobody f a.2, and_left c.trailing (claimed_at c.grid (target c)) r, k)
