-- Reading a text: what one character adds. Assumes nothing.
use mathlib.Core.Bool.{Bool, false, cond}
use mathlib.Core.List.{List, ◌++◌}
use mathlib.Core.Path.{◌≡◌, refl, sym, ◌∙◌, ap}
use Prim.Native.Char.{code}
use Prim.Native.Nat.{ℕ, ◌+◌, ◌/◌, ◌%◌, ◌<◌}
use native.Mathlib.Omega.{arith}
use lib.Dec.{eqb}
use lib.ListN.{get_or, set, drop, replicate}
use borrow.Author.Tests.{ne_eqb}
use Rattle.laws.specs.Lists.{count, table}
use Rattle.laws.proofs.Folds.{across_turn, across_end}
use Rattle.laws.proofs.Table.{table_more, table-whole}
use Rattle.mine_state.specs.declared.Mine.{Mine}
use Rattle.mine_state.specs.declared.Enemy.{Enemy}
use Rattle.mine_state.specs.State.{W, AREA, WALL, is_coin}
use Rattle.mine_state.specs.Change.{with_grid, with_player, with_creatures, with_needed}
use Rattle.mine_rules.specs.Load.{tile_of, with_one_more, settled, read_at, unread, quarters, asking, read_from, mine_of}

-- the tiles read so far, on walls
abbrev pub tile_in : List ℕ → ℕ → ℕ
tile_in text i = tile_of (get_or text i 0)

abbrev pub tiled_to : List ℕ → ℕ → List ℕ
tiled_to text i = table i (tile_in text) ++ drop i (replicate AREA WALL)

pub tiled_more : (text : List ℕ) (i : ℕ) → i < AREA → set (tiled_to text i) i (tile_in text i) ≡ tiled_to text (i + 1)
tiled_more text i h = table_more i (tile_in text) (replicate AREA WALL) 0 h

pub tiled_done : (text : List ℕ) (i : ℕ) → i ≡ AREA → tiled_to text i ≡ table AREA (tile_in text)
tiled_done text i e = rw e (table-whole AREA (tile_in text) (replicate AREA WALL) refl)

-- the state so far, of which the reading changes these parts
abbrev pub so_far : List ℕ → ℕ → ℕ → List Enemy → ℕ → Mine
so_far g x y es n = with_creatures (with_player (with_grid unread g) x y) es n

-- neither `P` nor `E`
settled-none : (m : Mine) (c x y : ℕ) → eqb c (code "P") ≡ false → eqb c (code "E") ≡ false → settled m c x y ≡ m
settled-none m c x y a b =
    ap (λ (t : Bool). cond t (with_player m x y) (cond (eqb c (code "E")) (with_one_more m x y) m)) a
    ∙ ap (λ (t : Bool). cond t (with_one_more m x y) m) b

-- one character read, of those from the place i on, and all of them
module _ (text : List ℕ) (i x y : ℕ) (es : List Enemy) (n : ℕ) {R : Mine} (q : read_from text i (so_far (tiled_to text i) x y es n) ≡ R) where
  module _ (h : i < AREA) where
    abbrev laid : Mine
    laid = so_far (tiled_to text (i + 1)) x y es n

    read_one : {m : Mine} → settled laid (get_or text i 0) (i % W) (i / W) ≡ m → read_from text (i + 1) m ≡ R
    unfolding read_from read_at
    read_one {m} e =
        across_turn (read_at text) AREA i (so_far (tiled_to text i) x y es n) m h
        (ap (λ (g : List ℕ). settled (so_far g x y es n) (get_or text i 0) (i % W) (i / W)) (tiled_more text i h) ∙ e)
        q

    pub read_player : get_or text i 0 ≡ code "P" → read_from text (i + 1) (with_player laid (i % W) (i / W)) ≡ R
    read_player e = read_one (ap (λ (c : ℕ). settled laid c (i % W) (i / W)) e)

    pub read_creature : {m : Mine} → get_or text i 0 ≡ code "E" → with_one_more laid (i % W) (i / W) ≡ m → read_from text (i + 1) m ≡ R
    read_creature e r = read_one (ap (λ (c : ℕ). settled laid c (i % W) (i / W)) e ∙ r)

    pub read_tile : (get_or text i 0 ≡ code "P" → ⊥) → (get_or text i 0 ≡ code "E" → ⊥) → read_from text (i + 1) laid ≡ R
    read_tile a b =
        read_one (settled-none laid (get_or text i 0) (i % W) (i / W) (ne_eqb (get_or text i 0) (code "P") a) (ne_eqb (get_or text i 0) (code "E") b))

  pub read_done : {g : List ℕ} → i ≡ AREA → g ≡ table AREA (tile_in text) → so_far g x y es n ≡ R
  unfolding read_from
  read_done {g} e t =
      ap (λ (l : List ℕ). so_far l x y es n) (t ∙ sym (tiled_done text i e))
      ∙ across_end (read_at text) AREA i (so_far (tiled_to text i) x y es n) (omega arith) q

-- c coins, of which k are asked for
pub asked : (text : List ℕ) (m : Mine) (c k : ℕ) → m ≡ read_from text 0 unread → c ≡ count is_coin m.grid → quarters c ≡ k → with_needed m k ≡ mine_of text
unfolding mine_of
asked text m c k e q h = ap (with_needed m) (sym h ∙ ap quarters q) ∙ ap asking e
