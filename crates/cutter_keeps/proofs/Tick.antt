-- A creature tick keeps a state well formed, and its numbers. Assumes nothing.
use mathlib.Core.Bool.{true, ◌&&◌, ◌||◌}
use mathlib.Core.List.{List, [], ◌∷◌, ◌++◌}
use mathlib.Core.Path.{◌≡◌, refl, sym, ◌∙◌, ap}
use Prim.Native.Nat.{ℕ, suc, ◌+◌}
use native.Mathlib.Omega.{arith}
use lib.IntN.{ℤ, pos, negsuc}
use lib.ListN.{length, length-append, take-append-drop}
use lib.Seq.{take_at, drop_at, length-take-le}
use borrow.Author.Tests.{eqb-true}
use Rattle.laws.specs.Lists.{all, any}
use Rattle.laws.proofs.Choice.{cond_both, and_left, and_right, and_both, and_three}
use Rattle.cutter_ground.specs.Cells.{CN, CB_BLACK, cell_at, black_at}
use Rattle.cutter_ground.specs.declared.Mover.{Mover}
use Rattle.cutter_joined.proofs.Joined.{black_in_lem}
use Rattle.cutter_state.specs.declared.Cutter.{Cutter}
use Rattle.cutter_state.specs.State.{holds_at, creatures, spare}
use Rattle.cutter_state.specs.WellFormed.{is_unit, mover_ok, WellFormed}
use Rattle.cutter_rules.specs.Ahead.{side_of, vertical_of, diagonal_of}
use Rattle.cutter_rules.specs.Tick.{line_ahead, flipped, turned, gone_to, bounced, movers_stepped, enemies_stepped}
use Rattle.cutter_keeps.specs.Kept.{Kept}
use Rattle.cutter_keeps.proofs.Changes.{kept_self, kept_dead, kept-creatures}
use Rattle.cutter_keeps.proofs.Creatures.{cell_holds}
use Rattle.cutter_ground.specs.Movers.{place_of}

flipped-unit : (v : ℤ) → is_unit (flipped v) ≡ true
unfolding flipped
flipped-unit (pos n) = refl
flipped-unit (negsuc n) = refl

module _ (g : List ℕ) (l : length g ≡ CN) where
  turned-unit : (t : ℕ) (v : ℤ) → is_unit v ≡ true → is_unit (turned g t v) ≡ true
  unfolding turned
  turned-unit t v u = cond_both (λ (z : ℤ). is_unit z ≡ true) (black_at g t) v (flipped v) (λ _. u) (λ _. flipped-unit v)

  gone_ok : (e : Mover) (a b : ℤ) → holds_at g CB_BLACK e.x e.y ≡ true → is_unit a ≡ true → is_unit b ≡ true → mover_ok g (gone_to g e a b) ≡ true
  unfolding gone_to mover_ok
  gone_ok e a b h u v =
      let to = diagonal_of a b (place_of e) in
      cond_both (λ (m : Mover). (holds_at g CB_BLACK m.x m.y && is_unit m.vx && is_unit m.vy) ≡ true) (black_at g to) _ _
      (λ t. let k = eqb-true (cell_at g to) CB_BLACK t in rw (cell_holds g CB_BLACK to (omega (arith, black_in_lem g to k)) k, u) v)
      (λ _. rw (h, u) v)

  bounced_ok : (e : Mover) → mover_ok g e ≡ true → mover_ok g (bounced g e) ≡ true
  unfolding bounced mover_ok
  bounced_ok e m =
      let t = and_three (holds_at g CB_BLACK e.x e.y) (is_unit e.vx) (is_unit e.vy) m in
      gone_ok e _ _ t.0 (turned-unit (side_of e.vx (place_of e)) e.vx t.1) (turned-unit (vertical_of e.vy (place_of e)) e.vy t.2)

  ticked_ok : (es : List Mover) → all (mover_ok g) es ≡ true → all (mover_ok g) (movers_stepped g es) ≡ true
  unfolding movers_stepped
  ticked_ok [] a = refl
  ticked_ok (e ∷ es) a =
      cond_both (λ (r : List Mover). all (mover_ok g) r ≡ true) (line_ahead g e) _ _
      (λ _. a)
      (λ _. and_both (mover_ok g (bounced g e)) (all (mover_ok g) (movers_stepped g es)) (bounced_ok e (and_left (mover_ok g e) (all (mover_ok g) es) a))
      (ticked_ok es (and_right (mover_ok g e) (all (mover_ok g) es) a)))

length_ticked : (g : List ℕ) (es : List Mover) → length (movers_stepped g es) ≡ length es
unfolding movers_stepped
length_ticked g [] = refl
length_ticked g (e ∷ es) = cond_both (λ (r : List Mover). length r ≡ suc (length es)) (line_ahead g e) _ _ (λ _. refl) (λ _. ap suc (length_ticked g es))

pub tick-kept : (c : Cutter) → WellFormed c → Kept c (enemies_stepped c)
unfolding enemies_stepped
tick-kept c w =
    let m = movers_stepped c.grid (creatures c) in
    let n : length m ≡ c.count = length_ticked c.grid (creatures c) ∙ length-take-le c.count c.enemies (omega (arith, w.few, w.slots)) in
    let whole : length (m ++ spare c) ≡ length c.enemies = length-append m (spare c) ∙ ap (λ (k : ℕ). k + length (spare c)) (length_ticked c.grid (creatures c))
    ∙ sym (length-append (creatures c) (spare c)) ∙ ap length (take-append-drop c.count c.enemies) in
    kept_dead (kept-creatures (kept_self w) (m ++ spare c) (whole ∙ w.slots)
    (rw (take_at m (spare c) c.count n) (ticked_ok c.grid w.cells (creatures c) w.each))
    (rw (drop_at m (spare c) c.count n) w.rest))
    (c.dead || any (line_ahead c.grid) (creatures c))
