-- A move keeps a state well formed, its coins and its boulders. Assumes nothing.
use Rattle.std.specs.Prelude.{None, Option, Some}
use mathlib.Core.Bool.{Bool, true, false, ◌||◌}
use mathlib.Core.List.{List, [], ◌∷◌}
use mathlib.Core.Logic.{⊎_elim}
use mathlib.Core.Path.{◌≡◌, refl}
use Prim.Native.Nat.{ℕ, zero, suc, ◌<◌}
use lib.Dec.{eqb, leb}
use lib.ListN.{get_or, set}
use borrow.Author.Tests.{eqb-true, lt-ltb}
use Rattle.laws.proofs.Choice.{cond_both, or_cases}
use Rattle.found.specs.declared.Found.{Found}
use Rattle.mine_state.specs.declared.Mine.{Mine}
use Rattle.mine_state.specs.State.{W, H, EMPTY, DIRT, WALL, BOULDER, COIN, EXIT, is_coin, is_boulder, place, code_at, empty_at, first_at, free_at}
use Rattle.mine_state.specs.Change.{entered, with_grid}
use Rattle.mine_state.specs.WellFormed.{WellFormed}
use Rattle.mine_state.proofs.Facts.{sound}
use Rattle.mine_rules.specs.Ways.{next_cell}
use Rattle.mine_rules.specs.Move.{collected, pushed_to, pushed, sideways, met, meets, moved_to, moved}
use Rattle.mine_rules.proofs.Next.{next-inside, home}
use Rattle.mine_keeps.specs.Kept.{Kept}
use Rattle.mine_keeps.proofs.Changes.{kept_self, kept-killed, kept_won, kept-player, kept_dug, kept-collected, kept_shifted}

-- the cell that was emptied is empty
emptied : (l : List ℕ) (i : ℕ) → get_or (set l i EMPTY) i EMPTY ≡ EMPTY
emptied [] i = refl
emptied (x ∷ l) zero = refl
emptied (x ∷ l) (suc i) = emptied l i

dug_empty : (g : List ℕ) (x y : ℕ) → x < W → y < H → empty_at (set g (place x y) EMPTY) x y ≡ true
unfolding empty_at
dug_empty g x y hx hy = rw (lt-ltb x W hx, lt-ltb y H hy, emptied g (place x y))

-- dirt and empty are not counted
plain : (t : ℕ) → (eqb t DIRT || eqb t EMPTY) ≡ true → (f : ℕ → Bool) → f DIRT ≡ false → f EMPTY ≡ false → f t ≡ false
plain t e f a b = ⊎_elim (λ d. rw (eqb-true t DIRT d) a) (λ d. rw (eqb-true t EMPTY d) b) (or_cases (eqb t DIRT) (eqb t EMPTY) e)

module _ {m : Mine} (w : WellFormed m) (x y : ℕ) (hx : x < W) (hy : y < H) where
  abbrev there : empty_at (set m.grid (place x y) EMPTY) x y ≡ true
  there = dug_empty m.grid x y hx hy

  kept-entered : is_coin (code_at m x y) ≡ false → is_boulder (code_at m x y) ≡ false → Kept m (entered m x y)
  kept-entered c b = kept-player (kept_dug (kept_self w) x y c b) x y there

  kept_taken : is_coin (code_at m x y) ≡ true → Kept m (collected m x y)
  kept_taken c = kept-player (kept-collected (kept_self w) x y c) x y there

  kept-pushed_to : is_boulder (code_at m x y) ≡ true → (a : Option (ℕ × ℕ)) → Kept m (pushed_to m x y a)
  kept-pushed_to b None = kept_self w
  kept-pushed_to b (Some (bx, by)) =
      cond_both (Kept m) (free_at m bx by) _ _
      (λ f. let t : code_at m x y ≡ BOULDER = eqb-true (code_at m x y) BOULDER b in
      let k : Kept m (with_grid m (set (set m.grid (place bx by) BOULDER) (place x y) EMPTY)) = rw t at (kept_shifted (kept_self w) x y bx by f) in
      kept-player k x y (dug_empty (set m.grid (place bx by) BOULDER) x y hx hy))
      (λ _. kept_self w)

  kept-met : (d : ℕ) → Kept m (met m d x y)
  unfolding met pushed
  kept-met d =
      let t : ℕ = code_at m x y in
      cond_both (Kept m) (eqb t WALL) _ _ (λ _. kept_self w)
      (λ _. cond_both (Kept m) (eqb t EXIT) _ _
      (λ _. cond_both (Kept m) (leb m.needed m.coins) _ _ (λ _. kept_won (kept_self w)) (λ _. kept_self w))
      (λ _. cond_both (Kept m) (eqb t DIRT || eqb t EMPTY) _ _ (λ e. kept-entered (plain t e is_coin refl refl) (plain t e is_boulder refl refl))
      (λ _. cond_both (Kept m) (eqb t COIN) _ _ (λ e. kept_taken e)
      (λ _. cond_both (Kept m) (eqb t BOULDER) _ _
      (λ e. cond_both (Kept m) (sideways d) _ _ (λ _. kept-pushed_to e (next_cell d x y)) (λ _. kept_self w))
      (λ _. kept_self w)))))

  kept-meets : (d : ℕ) (f : Option Found) → Kept m (meets m d x y f)
  kept-meets d (Some f) = kept-killed (kept_self w)
  kept-meets d None = kept-met d

kept_to : {m : Mine} → WellFormed m → (d : ℕ) (a : Option (ℕ × ℕ)) → (next_cell d m.px m.py ≡ a) → Kept m (moved_to m d a)
kept_to w d None e = kept_self w
kept_to {m} w d (Some (x, y)) e =
    let o = next-inside d m.px m.py (home (sound m w)) e in
    kept-meets w x y o.across o.down d (first_at m x y)

pub move-kept : (m : Mine) (d : ℕ) → WellFormed m → Kept m (moved m d)
unfolding moved
move-kept m d w = kept_to w d (next_cell d m.px m.py) refl
