-- The two loops of a tick: the state so far, and what is left to do with it. Assumes nothing.
use mathlib.Core.Bool.{Bool, true, false, ◌||◌}
use mathlib.Core.List.{List}
use mathlib.Core.Path.{◌≡◌, refl, sym, ◌∙◌, ap, subst}
use Prim.Native.Nat.{ℕ, ◌+◌, ◌-◌, ◌<◌, ◌≤◌}
use native.Mathlib.Omega.{arith}
use lib.Dec.{eqb, leb}
use lib.ListN.{set}
use lib.Seq.{set-get_or}
use Rattle.laws.specs.Lists.{across, down_to}
use Rattle.laws.proofs.Choice.{or_left, or_right}
use Rattle.laws.proofs.Folds.{across-more, across_end, across-still, down-more, down_end}
use Rattle.mine_state.specs.declared.Mine.{Mine}
use Rattle.mine_state.specs.State.{W, H, EMPTY, place, code_at, marked}
use Rattle.mine_state.specs.Change.{with_marks}
use Rattle.mine_apart.specs.CodeApart.{Spotted, Stand}
use Rattle.mine_rules.specs.Gravity.{is_object, rested, cell_fall, row_fall}
use Rattle.mine_fall.specs.CodeFalls.{stirs, Quietly}
use Rattle.mine_fall.proofs.Lent.{cell_rests}
use Rattle.mine_rules.proofs.GravityKeeps.{cell-keeps}
use Rattle.mine_rules.proofs.GravitySound.{sound-keeps}
use Rattle.mine_state.specs.CodeState.{Sound}

abbrev cell_of : ℕ → Mine → ℕ → Mine
cell_of y s x = cell_fall s x y

-- what is left to do before the row y is begun, and within it before the cell x
abbrev pub rows_left : ℕ → Mine → Mine
rows_left y s = down_to row_fall y s

abbrev pub cells_left : ℕ → ℕ → Mine → Mine
cells_left y x s = rows_left y (across (cell_of y) (W - x) x s)

-- the state so far is sound, and what is left to do gives R
pub record During (R : Mine) (left : Mine → Mine) (s : Mine) : Type 0 where
  pub sound : Sound s
  pub same : left s ≡ R

pub stands : {R : Mine} {left : Mine → Mine} {spots : List ℕ} (s : Mine) → During R left s → Spotted s.enemies s.count spots → Stand s spots (place s.px s.py)
stands s d w = record { spotted = w; home = d.sound.home.0; you = refl }

-- a mark that is clear, cleared
cleared : (s : Mine) (x y : ℕ) → marked s x y ≡ false → rested s x y ≡ s
unfolding rested
cleared s x y e =
    ap (λ (l : List Bool). with_marks s l) (ap (set s.falling (place x y)) (sym e) ∙ set-get_or s.falling (place x y) false)

no_object : (s : Mine) (x y : ℕ) → is_object (code_at s x y) ≡ false → cell_fall s x y ≡ s
unfolding cell_fall
no_object s x y e = rw e

-- where nothing can stir, a cell changes nothing
cell-still : (s : Mine) (x y : ℕ) → stirs s.grid s.falling x y ≡ false → cell_fall s x y ≡ s
cell-still s x y e = go (is_object (code_at s x y)) refl
  where
    go : (t : Bool) → is_object (code_at s x y) ≡ t → cell_fall s x y ≡ s
    go false q = no_object s x y q
    go true q =
        let last = leb H (y + 1) in
        let over = eqb (code_at s x (y + 1)) EMPTY in
        let on = is_object (code_at s x (y + 1)) in
        let m = marked s x y in
        let four : (last || over || on || m) ≡ false = rw q at e in
        let three = or_left (last || over || on) m four in
        let two = or_left (last || over) on three in
        cell_rests s x y q (or_left last over two) (or_right last over two) (or_right (last || over) on three) ∙ cleared s x y (or_right (last || over || on) m four)

module _ {R : Mine} where
  -- a cell is done
  pub turn : (y x : ℕ) (s : Mine) {s' : Mine} → x < W → During R (cells_left y x) s → cell_fall s x y ≡ s' → During R (cells_left y (x + 1)) s'
  turn y x s h d e =
      record {
        sound = subst Sound e (cell-keeps sound-keeps s x y h d.sound);
        same = ap (λ (u : Mine). cells_left y (x + 1) u) (sym e) ∙ ap (rows_left y) (across-more (cell_of y) W x s h refl) ∙ d.same;
      }

  -- a row is begun, is done, and is passed over where nothing can stir
  pub row_begins : (y : ℕ) (s : Mine) → 0 < y → During R (rows_left y) s → During R (cells_left (y - 1) 0) s
  unfolding row_fall
  row_begins y s h d = record { sound = d.sound; same = down-more row_fall y s h d.same }

  pub row_ends : (y x : ℕ) (s : Mine) → W ≤ x → During R (cells_left y x) s → During R (rows_left y) s
  row_ends y x s h d =
      record { sound = d.sound; same = ap (rows_left y) (across_end (cell_of y) W x s h refl) ∙ d.same }

  pub row_passed : (y : ℕ) (s : Mine) → Quietly s.grid s.falling y W → During R (cells_left y 0) s → During R (rows_left y) s
  row_passed y s q d =
      let e = across-still (cell_of y) W W 0 s (omega arith) (λ j h. cell-still s j y (q j h)) in
      record { sound = d.sound; same = ap (rows_left y) (sym e) ∙ d.same }

  pub rows_done : (y : ℕ) (s : Mine) → y ≤ 0 → During R (rows_left y) s → s ≡ R
  rows_done y s h d = down_end row_fall y s h d.same

-- what is left to do gives R by way of another state
pub onwards : {R R' : Mine} {left : Mine → Mine} {s : Mine} → R ≡ R' → During R left s → During R' left s
onwards e d = record { sound = d.sound; same = d.same ∙ e }
