-- The creature tick: what a creature sees ahead decides its move, and what is left to do completes the loop's answer. Assumes nothing.
use mathlib.Core.Bool.{Bool, true, false, cond, ◌&&◌, ◌||◌}
use mathlib.Core.List.{List, [], ◌∷◌, ◌++◌}
use mathlib.Core.Path.{◌≡◌, refl, sym, ap, ◌∙◌}
use Prim.Native.Nat.{ℕ, suc, ◌+◌, ◌≤◌, ◌<◌}
use native.Mathlib.Numerals.{add-one}
use native.Mathlib.Omega.{arith}
use lib.Dec.{eqb}
use Rattle.std.specs.Prelude.{None, Some}
use lib.IntN.{ℤ, pos, negsuc}
use lib.ListN.{length, get_or, take, drop, set, length-set, take-append-drop}
use lib.Seq.{take-suc-set, drop-set-lt, append_snoc}
use borrow.Author.Tests.{eqb-true}
use Rattle.laws.specs.Lists.{all, any}
use Rattle.laws.proofs.Choice.{and_left, and_right, and_three}
use Rattle.laws.proofs.Lists.{get_or_default, drop-one, taken_one, taken_rest, taken_end, any-more, any-holds, any_end}
use Rattle.cutter_ground.specs.Cells.{CN, CB_BLACK, CB_FILLED, CB_TRAIL, cell_at}
use Rattle.cutter_ground.specs.declared.Mover.{Mover}
use Rattle.cutter_state.specs.State.{holds_at}
use Rattle.cutter_state.specs.WellFormed.{rows_filled, columns_filled, is_unit, mover_ok}
use Rattle.cutter_state.proofs.Ring.{holds-inside, holds_code, inside_ring}
use Rattle.cutter_rules.specs.Ahead.{side_of, vertical_of, diagonal_of}
use Rattle.cutter_rules.specs.Tick.{line_ahead, flipped, turned, gone_to, bounced, movers_stepped}
use Rattle.cutter_moves.specs.declared.enemies.Moved.{Moved}
use Rattle.cutter_moves.specs.declared.enemies.View.{View}
use Rattle.cutter_moves.specs.CodeMoves.{Roams, Ticks, view_of, mover_at, roam_of, tick_of}
use Rattle.cutter_ground.specs.Movers.{place_of}

view_same : {a b : ℕ} {s t u v w x : ℕ} → a ≡ b → s ≡ t → u ≡ v → w ≡ x
    → ◌≡◌ {A = View} (record { to = a; side = s; vertical = u; diagonal = w }) (record { to = b; side = t; vertical = v; diagonal = x })
view_same p q r o = cc

module _ (g : List ℕ) (e : Mover) where
  -- the three cells read on the grid are what the creature sees
  pub seen : length g ≡ CN → (b a t : ℕ) → b ≡ side_of e.vx (place_of e) → b < CN → a ≡ vertical_of e.vy (place_of e) → a < CN → t ≡ side_of e.vx a → t < CN
      → record { to = t; side = get_or g b 0; vertical = get_or g a 0; diagonal = get_or g t 0 } ≡ view_of g e
  seen l b a t p h q k r m =
      let read : (i : ℕ) → i < CN → get_or g i 0 ≡ cell_at g i = λ i h. get_or_default g i 0 CB_FILLED (omega arith) in
      let o : t ≡ diagonal_of e.vx e.vy (place_of e) = r ∙ ap (side_of e.vx) q in
      view_same o (read b h ∙ ap (cell_at g) p) (read a k ∙ ap (cell_at g) q) (read t m ∙ ap (cell_at g) o)

  module _ (v : View) (s : v ≡ view_of g e) where
    -- black in all three: straight on, and no line
    clear_on : (eqb v.side CB_BLACK && eqb v.vertical CB_BLACK && eqb v.diagonal CB_BLACK) ≡ true
        → (line_ahead g e ≡ false) × (mover_at v.to e.vx e.vy ≡ bounced g e)
    unfolding line_ahead bounced turned gone_to
    clear_on c =
        let t = and_three (eqb v.side CB_BLACK) (eqb v.vertical CB_BLACK) (eqb v.diagonal CB_BLACK) c in
        let a : eqb (cell_at g (side_of e.vx (place_of e))) CB_BLACK ≡ true = ap (λ (w : View). eqb w.side CB_BLACK) (sym s) ∙ t.0 in
        let b : eqb (cell_at g (vertical_of e.vy (place_of e))) CB_BLACK ≡ true = ap (λ (w : View). eqb w.vertical CB_BLACK) (sym s) ∙ t.1 in
        let d : eqb (cell_at g (diagonal_of e.vx e.vy (place_of e))) CB_BLACK ≡ true = ap (λ (w : View). eqb w.diagonal CB_BLACK) (sym s) ∙ t.2 in (
          simp (
            eqb-true (cell_at g (side_of e.vx (place_of e))) CB_BLACK a,
            eqb-true (cell_at g (vertical_of e.vy (place_of e))) CB_BLACK b,
            eqb-true (cell_at g (diagonal_of e.vx e.vy (place_of e))) CB_BLACK d,
          ),
          ap (λ (w : View). mover_at w.to e.vx e.vy) s ∙ simp (a, b, d),
        )

    line-seen : (eqb v.side CB_TRAIL || eqb v.vertical CB_TRAIL || eqb v.diagonal CB_TRAIL) ≡ line_ahead g e
    unfolding line_ahead
    line-seen = ap (λ (w : View). eqb w.side CB_TRAIL || eqb w.vertical CB_TRAIL || eqb w.diagonal CB_TRAIL) s

    -- velocity parts turned by what is ahead
    pub bounce_seen : gone_to g e (cond (eqb v.side CB_BLACK) e.vx (flipped e.vx)) (cond (eqb v.vertical CB_BLACK) e.vy (flipped e.vy)) ≡ bounced g e
    unfolding bounced turned
    bounce_seen = ap (λ (w : View). gone_to g e (cond (eqb w.side CB_BLACK) e.vx (flipped e.vx)) (cond (eqb w.vertical CB_BLACK) e.vy (flipped e.vy))) s

    -- the three ways of a move
    pub roam_clear : (eqb v.side CB_BLACK && eqb v.vertical CB_BLACK && eqb v.diagonal CB_BLACK) ≡ true → (m : Mover) → m ≡ mover_at v.to e.vx e.vy
        → Some m ≡ roam_of g e
    roam_clear c m q = let z = clear_on c in rw z.0 (ap Some (q ∙ z.1))

    pub roam_line : (eqb v.side CB_TRAIL || eqb v.vertical CB_TRAIL || eqb v.diagonal CB_TRAIL) ≡ true → None ≡ roam_of g e
    roam_line l = rw (sym line-seen ∙ l)

    pub roam_turned : (eqb v.side CB_TRAIL || eqb v.vertical CB_TRAIL || eqb v.diagonal CB_TRAIL) ≡ false → (m : Mover) → m ≡ bounced g e
        → Some m ≡ roam_of g e
    roam_turned l m q = rw (sym line-seen ∙ l) (ap Some q)

  -- a creature on black is inside the ring
  pub roams : length g ≡ CN → rows_filled g ≡ true → columns_filled g ≡ true → mover_ok g e ≡ true → Roams g e e.vx e.vy
  unfolding mover_ok
  roams l r k m =
      let t = and_three (holds_at g CB_BLACK e.x e.y) (is_unit e.vx) (is_unit e.vy) m in
      let h = holds-inside g CB_BLACK e.x e.y t.0 in
      let b = holds_code g CB_BLACK e.x e.y t.0 in
      record {
        cells = l;
        amid = inside_ring g e.x e.y r k h.0 h.1 (λ f. let z : ◌≡◌ {A = ℕ} 0 1 = sym b ∙ f in omega arith);
        across = t.1;
        along = t.2;
      }

-- a unit, turned or not
pub turned-unit : (b : Bool) (v : ℤ) → is_unit v ≡ true → is_unit (cond b v (flipped v)) ≡ true
unfolding flipped
turned-unit true v u = u
turned-unit false (pos n) u = refl
turned-unit false (negsuc n) u = refl

-- a choice between nothing and something
roam-some : (b : Bool) (m k : Mover) → Some m ≡ cond b None (Some k) → (b ≡ false) × (m ≡ k)
roam-some true m k e = cc
roam-some false m k e = (refl, cc)

roam-none : (b : Bool) (k : Mover) → None ≡ cond b None (Some k) → b ≡ true
roam-none true k e = refl
roam-none false k e = cc

-- where i creatures of the list l have moved, and out is the list now
pub record Going (g : List ℕ) (l : List Mover) (n : ℕ) (out : List Mover) (i : ℕ) : Type 0 where
  pub within : i ≤ n
  pub whole : length out ≡ length l
  -- those from i on have not moved
  pub rest : drop i out ≡ drop i l
  -- with what the rest of them do it is the answer
  pub done : take i out ++ (movers_stepped g (drop i (take n l)) ++ drop n l) ≡ movers_stepped g (take n l) ++ drop n l
  -- they are on black
  pub black : all (mover_ok g) (drop i (take n l)) ≡ true
  -- no line was ahead
  pub safe : any (line_ahead g) (drop i (take n l)) ≡ any (line_ahead g) (take n l)

pub going_start : (g : List ℕ) (l : List Mover) (n : ℕ) → Ticks g l n → Going g l n l 0
going_start g l n t = record { within = omega arith; whole = refl; rest = refl; done = refl; black = t.each; safe = refl }

moved_same : (es fs : List Mover) (a b : Bool) → es ≡ fs → a ≡ b → ◌≡◌ {A = Moved} (record { enemies = es; dead = a }) (record { enemies = fs; dead = b })
moved_same es fs a b p q = cc

take_more : (l : List Mover) (i : ℕ) (v : Mover) → i < length l → take (i + 1) (set l i v) ≡ take i l ++ (v ∷ [])
take_more l i v h = rw add-one (take-suc-set l i v h)

module _ (g : List ℕ) (l : List Mover) (n : ℕ) (out : List Mover) (i : ℕ) (d : Mover) (s : Going g l n out i) (h : n ≤ length l) where
  -- the creature i and those after it have not moved
  next : i < n → (get_or out i d ≡ get_or l i d) × (drop (i + 1) out ≡ drop (i + 1) l)
  next k =
      let p = drop-one out i d (omega (arith, s)) in
      let q = drop-one l i d (omega arith) in
      let r = s.rest in
      (cc, cc)

  next_taken : i < n → drop i (take n l) ≡ get_or out i d ∷ drop (i + 1) (take n l)
  next_taken k = taken_one n l i d k (omega arith) ∙ ap (λ (x : Mover). x ∷ drop (i + 1) (take n l)) (sym (next k).0)

  still_ok : i < n → (mover_ok g (get_or out i d) && all (mover_ok g) (drop (i + 1) (take n l))) ≡ true
  still_ok k = rw (next_taken k) at s.black

  -- the next creature is inside the ring
  pub going_roams : Ticks g l n → i < n → Roams g (get_or out i d) (get_or out i d).vx (get_or out i d).vy
  going_roams t k = roams g (get_or out i d) t.cells t.rows t.columns (and_left (mover_ok g (get_or out i d)) (all (mover_ok g) (drop (i + 1) (take n l))) (still_ok k))

  gone-more : i < n → line_ahead g (get_or out i d) ≡ false → Going g l n (set out i (bounced g (get_or out i d))) (i + 1)
  unfolding movers_stepped
  gone-more k t =
      let e = next_taken k in
      let later = (next k).1 in
      let v = bounced g (get_or out i d) in
      record {
        within = omega arith;
        whole = length-set out i v ∙ s.whole;
        rest = simp (add-one, drop-set-lt (suc i) out i v (omega arith)) (simp add-one at later);
        done = simp (take_more out i v (omega (arith, s)), append_snoc) (rw (e, t) at s.done);
        black = and_right (mover_ok g (get_or out i d)) (all (mover_ok g) (drop (i + 1) (take n l))) (still_ok k);
        safe = any-more (line_ahead g) (take n l) i e s.safe t;
      }

  gone_dead : i < n → line_ahead g (get_or out i d) ≡ true → record { enemies = out; dead = true } ≡ tick_of g l n
  unfolding movers_stepped tick_of
  gone_dead k t =
      let e = next_taken k in
      let r : movers_stepped g (drop i (take n l)) ≡ drop i (take n l) = rw (e, t) in
      let p = rw (r, taken_rest n i l s.within, ← s.rest, take-append-drop i out) at s.done in
      moved_same out _ true _ p (any-holds (line_ahead g) (take n l) i e s.safe t)

  -- by what the move of the creature i was
  pub going_more : i < n → (m : Mover) → Some m ≡ roam_of g (get_or out i d) → Going g l n (set out i m) (i + 1)
  going_more k m q = let z = roam-some (line_ahead g (get_or out i d)) m (bounced g (get_or out i d)) q in rw z.1 (gone-more k z.0)

  pub going_dead : i < n → None ≡ roam_of g (get_or out i d) → record { enemies = out; dead = true } ≡ tick_of g l n
  going_dead k q = gone_dead k (roam-none (line_ahead g (get_or out i d)) (bounced g (get_or out i d)) q)

module _ (g : List ℕ) (l : List Mover) (n : ℕ) (out : List Mover) (i : ℕ) (s : Going g l n out i) (h : n ≤ length l) where
  pub going_end : n ≤ i → record { enemies = out; dead = false } ≡ tick_of g l n
  unfolding movers_stepped tick_of
  going_end k =
      let e = taken_end n l i k in
      let q : i ≡ n = omega (arith, s) in
      let r : out ≡ take i out ++ drop n l = sym (take-append-drop i out) ∙ ap (λ (m : List Mover). take i out ++ m) (s.rest ∙ ap (λ (k : ℕ). drop k l) q) in
      let p : take i out ++ drop n l ≡ movers_stepped g (take n l) ++ drop n l = rw e at s.done in
      moved_same out _ false _ (r ∙ p) (any_end (line_ahead g) (take n l) i e s.safe)
