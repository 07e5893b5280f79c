-- What the functions over the lent grid and marks lean on. Assumes nothing.
use Rattle.std.specs.Prelude.{Option}
use mathlib.Core.Bool.{Bool, true, false, ◌&&◌, ◌||◌, not}
use mathlib.Core.List.{List}
use mathlib.Core.Path.{◌≡◌, refl, sym, ◌∙◌}
use Prim.Native.Nat.{ℕ, ◌+◌, ◌<◌}
use native.Mathlib.Omega.{arith}
use lib.Dec.{eqb, leb}
use lib.ListN.{get_or}
use borrow.Author.Tests.{eqb-true, eqb-false, eq-eqb, ne_eqb, lt-leb}
use Rattle.laws.proofs.Choice.{and_left, or_left, or_right}
use Rattle.found.specs.First.{nobody}
use Rattle.found.specs.declared.Found.{Found}
use Rattle.mine_state.specs.declared.Mine.{Mine}
use Rattle.mine_state.specs.State.{W, H, EMPTY, place, code_in, code_at, empty_at, player_at, first_at}
use Rattle.mine_apart.specs.CodeApart.{first_spot, free_spot, Stand}
use Rattle.mine_state.proofs.Cells.{empty-inside}
use Rattle.mine_apart.proofs.Places.{free_spot_lem, player_spot, first_spot_lem}
use Rattle.mine_rules.specs.Gravity.{is_object, rested, open_side, over_other, cell_fall}
use Rattle.mine_fall.specs.CodeFalls.{Barely, stirs, Quietly, open_spot, lent}

below_but : (j x : ℕ) → j < x + 1 → (j ≡ x → ⊥) → j < x
below_but j x h a = omega arith

-- a test that fails at each cell of a row, a turn at a time: b is what the loop has seen, o what the cell at x adds
pub none_more : (test : ℕ → Bool) (x : ℕ) (b : Bool) {o : Bool} → (b ≡ false → (j : ℕ) → j < x → test j ≡ false) → o ≡ test x → (b || o) ≡ false → (j : ℕ) → j < x + 1
    → test j ≡ false
none_more test x b {o} f e n j h = go (eqb j x) refl
  where
    go : (t : Bool) → eqb j x ≡ t → test j ≡ false
    go true q = rw (eqb-true j x q) (sym e ∙ or_right b o n)
    go false q = let a = eqb-false j x q in f (or_left b o n) j (below_but j x h a)

-- above the last row
pub stirs_over : (g : List ℕ) (f : List Bool) (x y : ℕ) → y + 1 < H
    → (is_object (code_in g x y) && (eqb (code_in g x (y + 1)) EMPTY || is_object (code_in g x (y + 1)) || get_or f (place x y) false)) ≡ stirs g f x y
stirs_over g f x y h = rw (lt-leb H (y + 1) h)

-- a row without objects
pub bare_quiet : (g : List ℕ) (f : List Bool) (y : ℕ) → Barely g y W → Quietly g f y W
bare_quiet g f y b x h = rw (b x h)

-- the lent grid and marks change nothing of where everyone stands
pub stand_lent : {m : Mine} {spots : List ℕ} {player : ℕ} → Stand m spots player → (g : List ℕ) (f : List Bool) → Stand (lent m g f) spots player
stand_lent s g f = record { spotted = record { placed = s.spotted.placed; them = s.spotted.them }; home = s.home; you = s.you }

pub open_spot_lem : {m : Mine} {spots : List ℕ} {player : ℕ} → Stand m spots player → (x y : ℕ) → open_spot m.grid spots player x y (y + 1) ≡ open_side m x y
open_spot_lem s x y = rw (free_spot_lem s x y, free_spot_lem s x (y + 1))

pub open_inside : (g spots : List ℕ) (player x y by : ℕ) → open_spot g spots player x y by ≡ true → x < W
unfolding free_spot
open_inside g spots player x y by e =
    let f = and_left (free_spot g spots player x y) (free_spot g spots player x by) e in
    let u = empty_at g x y in
    let v = not (eqb player (place x y)) in
    (empty-inside g x y (and_left u v (and_left (u && v) (nobody (first_spot (place x y) spots)) f))).0

module _ {m : Mine} {spots : List ℕ} {player : ℕ} (s : Stand m spots player) where
  -- whether a side is open, told by places
  pub is_open : (g : List ℕ) (f : List Bool) (x y : ℕ) {b : Bool} → open_spot g spots player x y (y + 1) ≡ b → open_side (lent m g f) x y ≡ b
  is_open g f x y e = sym (open_spot_lem (stand_lent s g f) x y) ∙ e

  -- who stands at a cell, told by places
  pub on_player : (x y : ℕ) → x < W → player ≡ place x y → player_at m x y ≡ true
  on_player x y h e = sym (player_spot s x y h) ∙ eq-eqb player (place x y) e

  pub off-player : (x y : ℕ) → x < W → (player ≡ place x y → ⊥) → player_at m x y ≡ false
  off-player x y h e = sym (player_spot s x y h) ∙ ne_eqb player (place x y) e

  pub found : (x y : ℕ) → x < W → y < H → {r : Option Found} → first_spot (place x y) spots ≡ r → first_at m x y ≡ r
  found x y hx hy e = sym (first_spot_lem m s.spotted x y hx hy) ∙ e

-- the last case of a cell: over anything but empty and objects
pub cell_rests : (m : Mine) (x y : ℕ) → is_object (code_at m x y) ≡ true → leb H (y + 1) ≡ false → eqb (code_at m x (y + 1)) EMPTY ≡ false
    → is_object (code_at m x (y + 1)) ≡ false → cell_fall m x y ≡ rested m x y
unfolding cell_fall over_other
cell_rests m x y o l e u = rw (o, l, e, u)
