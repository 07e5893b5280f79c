-- One walk through the cases of a tick: what its five changes of a state keep, the tick keeps. Assumes nothing.
use Rattle.std.specs.Prelude.{None, Option, Some}
use mathlib.Core.Bool.{true, false, ◌&&◌, not}
use mathlib.Core.Path.{◌≡◌, refl}
use Prim.Native.Nat.{ℕ, ◌+◌, ◌-◌, ◌<◌}
use native.Mathlib.Omega.{arith}
use lib.Dec.{eqb, leb, ltb}
use borrow.Author.Tests.{leb-false, lt-ltb, not-false}
use Rattle.laws.proofs.Choice.{cond_both, and_left, and_right}
use Rattle.laws.proofs.Folds.{across-keeps, down-keeps}
use Rattle.found.specs.declared.Found.{Found}
use Rattle.found.specs.First.{At}
use Rattle.mine_state.specs.declared.Mine.{Mine}
use Rattle.mine_state.specs.State.{W, H, EMPTY, is_coin, code_at, marked, empty_at, player_at, first_at, free_at}
use Rattle.mine_state.specs.Change.{killed}
use Rattle.mine_rules.specs.Gravity.{is_object, carried, rested, without, coin_collected, over_player, over_creature, over_found, over_empty}
use Rattle.mine_rules.specs.Gravity.{open_side, rolled, over_other, cell_fall, row_fall, gravity_of}

-- what the changes of a tick keep
pub record Keeps (P : Mine → Type 0) : Type 0 where
  -- a mark clears
  pub rests : (m : Mine) (x y : ℕ) → P m → P (rested m x y)
  -- an object falls or rolls to a free cell
  pub moves : (m : Mine) (x y nx ny : ℕ) → is_object (code_at m x y) ≡ true → free_at m nx ny ≡ true → P m → P (carried m x y nx ny)
  -- a coin is collected
  pub collects : (m : Mine) (x y : ℕ) → is_coin (code_at m x y) ≡ true → P m → P (coin_collected m x y)
  -- a boulder sets dead
  pub kills : (m : Mine) → P m → P (killed m)
  -- an object falls on the creature i, which goes
  pub squashes : (m : Mine) (x y i n : ℕ) → is_object (code_at m x y) ≡ true → empty_at m.grid x (y + 1) ≡ true → player_at m x (y + 1) ≡ false → first_at m x (y + 1) ≡ At i n → P m
      → P (carried (without m i) x y x (y + 1))

is_free : (m : Mine) (x y : ℕ) → empty_at m.grid x y ≡ true → player_at m x y ≡ false → first_at m x y ≡ None → free_at m x y ≡ true
unfolding free_at
is_free m x y a b c = rw (a, b, c)

is-empty : (m : Mine) (x y : ℕ) → x < W → y < H → eqb (code_at m x y) EMPTY ≡ true → empty_at m.grid x y ≡ true
unfolding empty_at
is-empty m x y hx hy e = rw (lt-ltb x W hx, lt-ltb y H hy, e)

module _ {P : Mine → Type 0} (k : Keeps P) (m : Mine) (x y : ℕ) (p : P m) where
  over_player-keeps : P (over_player m x y)
  unfolding over_player
  over_player-keeps =
      cond_both P (not (marked m x y)) _ _ (λ _. k.rests m x y p)
      (λ _. cond_both P (is_coin (code_at m x y)) _ _
      (λ e. k.rests (coin_collected m x y) x y (k.collects m x y e p))
      (λ _. k.rests (killed m) x y (k.kills m p)))

  module _ (o : is_object (code_at m x y) ≡ true) where
    over_found-keeps : empty_at m.grid x (y + 1) ≡ true → player_at m x (y + 1) ≡ false → (f : Option Found) → first_at m x (y + 1) ≡ f → P (over_found m x y f)
    unfolding over_creature
    over_found-keeps e n None q = k.moves m x y x (y + 1) o (is_free m x (y + 1) e n q) p
    over_found-keeps e n (Some f) q =
        cond_both P (marked m x y) _ _ (λ _. k.squashes m x y f.index f.number o e n q p) (λ _. k.rests m x y p)

    over_empty-keeps : empty_at m.grid x (y + 1) ≡ true → P (over_empty m x y)
    unfolding over_empty
    over_empty-keeps e =
        cond_both P (player_at m x (y + 1)) _ _ (λ _. over_player-keeps)
        (λ n. over_found-keeps e n (first_at m x (y + 1)) refl)

    rolled-keeps : P (rolled m x y)
    unfolding rolled
    rolled-keeps =
        cond_both P (ltb 0 x && open_side m (x - 1) y) _ _
        (λ e. side (x - 1) (and_right (ltb 0 x) (open_side m (x - 1) y) e))
        (λ _. cond_both P (open_side m (x + 1) y) _ _ (side (x + 1)) (λ _. p))
      where
        side : (sx : ℕ) → open_side m sx y ≡ true → P (carried m x y sx y)
        side sx e = k.moves m x y sx y o (and_left (free_at m sx y) (free_at m sx (y + 1)) e) p

over_other-keeps : {P : Mine → Type 0} → Keeps P → (m : Mine) (x y : ℕ) → P m → is_object (code_at m x y) ≡ true → P (over_other m x y)
unfolding over_other rested
over_other-keeps {P} k m x y p o =
    let q : P (rested m x y) = k.rests m x y p in
    cond_both P (is_object (code_at m x (y + 1))) _ _ (λ _. rolled-keeps k (rested m x y) x y q o) (λ _. q)

pub cell-keeps : {P : Mine → Type 0} → Keeps P → (m : Mine) (x y : ℕ) → x < W → P m → P (cell_fall m x y)
unfolding cell_fall
cell-keeps {P} k m x y hx p =
    cond_both P (not (is_object (code_at m x y))) _ _ (λ _. p)
    (λ n. let o = not-false (is_object (code_at m x y)) n in
    cond_both P (leb H (y + 1)) _ _ (λ _. k.rests m x y p)
    (λ l. cond_both P (eqb (code_at m x (y + 1)) EMPTY) _ _
    (λ e. over_empty-keeps k m x y p o (is-empty m x (y + 1) hx (leb-false H (y + 1) l) e))
    (λ _. over_other-keeps k m x y p o)))

pub gravity-keeps : {P : Mine → Type 0} → Keeps P → (m : Mine) → P m → P (gravity_of m)
unfolding gravity_of row_fall
gravity-keeps {P} k m p =
    down-keeps row_fall P H H m (omega arith)
    (λ s y _ q. across-keeps (λ (t : Mine) (x : ℕ). cell_fall t x y) P W W 0 s (omega arith) (λ t x h r. cell-keeps k t x y h r) q)
    p
