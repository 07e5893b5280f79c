-- Changes of the grid: a cell dug out, and an object moved to a free cell. What is empty stays so, and what is counted.
-- Assumes nothing.
use mathlib.Core.Bool.{Bool, true, false, ◌&&◌}
use mathlib.Core.List.{List, [], ◌∷◌}
use mathlib.Core.Path.{◌≡◌, refl, sym, ◌∙◌}
use Prim.Native.Nat.{ℕ, ◌+◌, ◌<◌}
use native.Mathlib.Omega.{arith}
use lib.Dec.{eqb, leb}
use lib.ListN.{length, get_or, set}
use lib.Seq.{get_or-set_other}
use borrow.Author.Tests.{eqb-true, eqb-false}
use Rattle.laws.specs.Lists.{all, any, count, bit}
use Rattle.laws.proofs.Choice.{and_left, and_right, or_left, or_right}
use Rattle.laws.proofs.Filter.{all_true, any_zero}
use Rattle.laws.proofs.Counts.{count-clear, count_set, get_or_set_kept_lem}
use Rattle.mine_state.specs.declared.Enemy.{Enemy}
use Rattle.mine_state.specs.State.{W, EMPTY, place, on_grid, code_in, empty_at, stands_at}
use Rattle.mine_state.specs.WellFormed.{creature_ok}
use Rattle.mine_state.proofs.Cells.{same_place, empty-inside}

-- creatures, none of whom stands where `off` tells, are on empty cells still, where each other empty cell stays empty
pub creatures-still : (g g' : List ℕ) (off : Enemy → Bool) → ((e : Enemy) → off e ≡ false → empty_at g e.x e.y ≡ true → empty_at g' e.x e.y ≡ true)
    → (es : List Enemy) → any off es ≡ false → all (creature_ok g) es ≡ true → all (creature_ok g') es ≡ true
creatures-still g g' off o [] n a = refl
creatures-still g g' off o (e ∷ es) n a =
    let here = and_left (creature_ok g e) (all (creature_ok g) es) a in
    let on = o e (or_left (off e) (any off es) n) (and_left (empty_at g e.x e.y) (leb e.dir 3) here) in
    rw (on, and_right (empty_at g e.x e.y) (leb e.dir 3) here)
    (creatures-still g g' off o es (or_right (off e) (any off es) n) (and_right (creature_ok g e) (all (creature_ok g) es) a))

-- a cell that is emptied leaves each empty cell empty
pub empty_dug : (g : List ℕ) (p x y : ℕ) → empty_at g x y ≡ true → empty_at (set g p EMPTY) x y ≡ true
unfolding empty_at
empty_dug g p x y e =
    let on = and_left (on_grid x y) (eqb (code_in g x y) EMPTY) e in
    let z = eqb-true (code_in g x y) EMPTY (and_right (on_grid x y) (eqb (code_in g x y) EMPTY) e) in
    rw (on, get_or_set_kept_lem g (place x y) p EMPTY EMPTY z)

pub creatures_dug : (g : List ℕ) (p : ℕ) (es : List Enemy) → all (creature_ok g) es ≡ true → all (creature_ok (set g p EMPTY)) es ≡ true
creatures_dug g p es a = creatures-still g (set g p EMPTY) (λ _. false) (λ e _ h. empty_dug g p e.x e.y h) es (any_zero (λ _. false) es (all_true es)) a

-- what stands at the place i moved to the cell (nx, ny)
abbrev pub shifted_to : List ℕ → ℕ → ℕ → ℕ → List ℕ
shifted_to g i nx ny = set (set g (place nx ny) (get_or g i EMPTY)) i EMPTY

module _ (g : List ℕ) (i nx ny : ℕ) (hx : nx < W) where
  abbrev shifted : List ℕ
  shifted = shifted_to g i nx ny

  pub empty_shifted : (x y : ℕ) → (eqb x nx && eqb y ny) ≡ false → empty_at g x y ≡ true → empty_at shifted x y ≡ true
  unfolding empty_at
  empty_shifted x y n e =
      let inside = empty-inside g x y e in
      let apart = eqb-false (place x y) (place nx ny) (sym (same_place x y nx ny inside.0 hx) ∙ n) in
      let on = and_left (on_grid x y) (eqb (code_in g x y) EMPTY) e in
      let z = eqb-true (code_in g x y) EMPTY (and_right (on_grid x y) (eqb (code_in g x y) EMPTY) e) in
      rw (on, get_or_set_kept_lem (set g (place nx ny) (get_or g i EMPTY)) (place x y) i EMPTY EMPTY (get_or-set_other g (place nx ny) (place x y) (get_or g i EMPTY) EMPTY apart ∙ z))

  pub creatures_shifted : (es : List Enemy) → any (stands_at nx ny) es ≡ false → all (creature_ok g) es ≡ true → all (creature_ok shifted) es ≡ true
  creatures_shifted es n a = creatures-still g shifted (stands_at nx ny) (λ e o h. empty_shifted e.x e.y o h) es n a

  -- where the cell was empty, what is counted stays, if what is empty does not count
  pub shifted_count : (f : ℕ → Bool) → f EMPTY ≡ false → place nx ny < length g → code_in g nx ny ≡ EMPTY → count f shifted ≡ count f g
  shifted_count f z h e =
      let j = place nx ny in
      let t = get_or g i EMPTY in
      let a : count f (set g j t) + bit (f (get_or g j EMPTY)) ≡ count f g + bit (f t) = count_set f g j t EMPTY h in
      let a' : count f (set g j t) + 0 ≡ count f g + bit (f t) = rw (e, z) at a in
      let b : count f shifted + bit (f (get_or (set g j t) i EMPTY)) ≡ count f (set g j t) = count-clear f EMPTY z z (set g j t) i in
      let b' : count f shifted + bit (f t) ≡ count f (set g j t) = rw (get_or_set_kept_lem g i j EMPTY t refl) at b in
      omega arith
