-- Cells of the grid: places, and what an empty and a free cell are. Assumes nothing.
use mathlib.Core.Bool.{Bool, true, false, ◌&&◌, not}
use mathlib.Core.List.{List}
use mathlib.Core.Path.{◌≡◌, refl}
use Prim.Native.Nat.{ℕ, ◌<◌}
use native.Mathlib.Omega.{arith}
use lib.Dec.{ltb, eqb}
use borrow.Author.Tests.{ltb-true, lt-ltb, eqb-true, eqb-false, eq-eqb}
use Rattle.laws.proofs.Choice.{and_left, and_right}
use Rattle.found.specs.First.{nobody}
use Rattle.mine_state.specs.declared.Mine.{Mine}
use Rattle.mine_state.specs.State.{W, H, EMPTY, place, on_grid, code_in, code_at, empty_at, player_at, first_at, free_at}

pub on_grid_lem : (x y : ℕ) → on_grid x y ≡ true → (x < W) × (y < H)
on_grid_lem x y e = (ltb-true x W (and_left (ltb x W) (ltb y H) e), ltb-true y H (and_right (ltb x W) (ltb y H) e))

-- two cells of the grid are one where their places are
pub same_place : (a b x y : ℕ) → a < W → x < W → (eqb a x && eqb b y) ≡ eqb (place a b) (place x y)
same_place a b x y ha hx = go (eqb (place a b) (place x y)) refl
  where
    go : (t : Bool) → eqb (place a b) (place x y) ≡ t → (eqb a x && eqb b y) ≡ t
    go true e =
        let h = eqb-true (place a b) (place x y) e in
        let p : a ≡ x = omega arith in
        let q : b ≡ y = omega arith in
        rw (eq-eqb a x p, eq-eqb b y q)
    go false e = off (eqb a x) (eqb b y) refl refl
      where
        off : (s t : Bool) → eqb a x ≡ s → eqb b y ≡ t → (s && t) ≡ false
        off true true p q =
            let u = eqb-true a x p in
            let v = eqb-true b y q in
            absurd (eqb-false (place a b) (place x y) e (omega arith))
        off true false p q = refl
        off false t p q = refl

module _ (g : List ℕ) (x y : ℕ) (e : empty_at g x y ≡ true) where
  pub empty-inside : (x < W) × (y < H)
  unfolding empty_at
  empty-inside = on_grid_lem x y (and_left (on_grid x y) (eqb (code_in g x y) EMPTY) e)

  pub empty_code : code_in g x y ≡ EMPTY
  unfolding empty_at
  empty_code = eqb-true (code_in g x y) EMPTY (and_right (on_grid x y) (eqb (code_in g x y) EMPTY) e)

-- the code decides whether a cell of the grid is empty
pub code_empty : (g : List ℕ) (x y : ℕ) → x < W → y < H → empty_at g x y ≡ eqb (code_in g x y) EMPTY
unfolding empty_at
code_empty g x y hx hy = simp (lt-ltb x W hx, lt-ltb y H hy)

module _ (m : Mine) (x y : ℕ) (e : free_at m x y ≡ true) where
  pub free_is_empty : empty_at m.grid x y ≡ true
  unfolding free_at
  free_is_empty = and_left (empty_at m.grid x y) (not (player_at m x y)) (and_left (empty_at m.grid x y && not (player_at m x y)) (nobody (first_at m x y)) e)

  pub free_inside : (x < W) × (y < H)
  free_inside = empty-inside m.grid x y free_is_empty

  pub free_empty : code_at m x y ≡ EMPTY
  free_empty = empty_code m.grid x y free_is_empty
