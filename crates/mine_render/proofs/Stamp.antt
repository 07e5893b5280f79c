-- A tile's page bytes in the window: which pixels they light. Assumes nothing.
use mathlib.Core.Path.{◌≡◌, refl, sym, ap, ◌∙◌}
use mathlib.Core.Bool.{Bool, true, false, true≢false, cond, ◌||◌, ◌&&◌, and-true, and-false, or-false}
use mathlib.Core.List.{List}
use mathlib.Core.Logic.{◌⊎◌, inl, inr}
use Prim.Native.Nat.{ℕ, ◌+◌, ◌-◌, ◌*◌, ◌/◌, ◌%◌, ◌≤◌, ◌<◌}
use native.Mathlib.Omega.{arith}
use borrow.Author.Tests.{eq-eqb, ne_eqb, le-leb, lt-leb, lt-ltb}
use lib.Bits.{bit_or}
use lib.Dec.{eqb, leb}
use lib.ListN.{get_or, set}
use Rattle.laws.proofs.Choice.{same?, below?}
use Rattle.laws.proofs.Table.{get_or-table_lem}
use Rattle.bits.specs.Bits.{number, bit_at, art_bit}
use Rattle.bits.proofs.Number.{number_or, number_ext, number_lt, byte_of_lem, bit-number}
use Rattle.frame.specs.Frame.{pack, page_byte, pixel}
use Rattle.frame.specs.CodeDraw.{Framed, inked}
use Rattle.frame.proofs.Pack.{pack_ext}
use Rattle.frame.proofs.Draw.{draw_packed, parts, parts_more}
use Rattle.mine_picture.specs.Art.{DIRT_PAT, WALL_PAT, BOULDER_PAT, COIN_PAT, EMPTY_PAT, exit_art, art_of}
use Rattle.mine_render.specs.declared.Tiles.{Tiles}
use Rattle.laws.specs.Lists.{table}
use Rattle.mine_picture.specs.Picture.{window}
use Rattle.mine_render.specs.CodeDraw.{columns_in, columns_of, tiles_of, stamp_lit, tile_lit, sprite_lit, in_window}
use Rattle.mine_state.specs.State.{DIRT, WALL, BOULDER, COIN, EXIT, code_in}

-- a stamp lights nothing outside its tile
module _ (col row x y : ℕ) where
  pub stamp_off : (cols : List ℕ) → (x / 8 ≡ col → y / 8 ≡ row + 1 → ⊥) → stamp_lit col row cols x y ≡ false
  stamp_off cols n = go (same? (x / 8) col) (same? (y / 8) (row + 1))
    where
      go : (x / 8 ≡ col) ⊎ (x / 8 ≡ col → ⊥) → (y / 8 ≡ row + 1) ⊎ (y / 8 ≡ row + 1 → ⊥) → stamp_lit col row cols x y ≡ false
      go (inl a) (inl b) = absurd (n a b)
      go (inl a) (inr b) = rw (eq-eqb (x / 8) col a, ne_eqb (y / 8) (row + 1) b)
      go (inr a) b = rw (ne_eqb (x / 8) col a)

  -- and in it the art
  pub stamp_on : (pat : List ℕ) → x / 8 ≡ col → y / 8 ≡ row + 1 → stamp_lit col row (columns_of pat) x y ≡ art_bit pat (x % 8) (y % 8)
  stamp_on pat a b =
      rw (eq-eqb (x / 8) col a, eq-eqb (y / 8) (row + 1) b, get_or-table_lem 8 (λ gx. number 8 (art_bit pat gx)) (x % 8) 0 (omega arith))
      (bit-number 8 (art_bit pat (x % 8)) (y % 8) (omega arith))

pub columns-bytes : (cols pat : List ℕ) → cols ≡ columns_of pat → (gx : ℕ) → gx < 8 → get_or cols gx 0 < 256
columns-bytes cols pat e gx h = rw (e, get_or-table_lem 8 (λ i. number 8 (art_bit pat i)) gx 0 h) (number_lt 8 (art_bit pat gx))

-- the columns that a code picks are those of its art
picked : (d w b c x o : Bool) →
    cond d (tiles_of o).dirt (cond w (tiles_of o).wall (cond b (tiles_of o).boulder (cond c (tiles_of o).coin (cond x (tiles_of o).exit EMPTY_PAT))))
    ≡ columns_of (cond d DIRT_PAT (cond w WALL_PAT (cond b BOULDER_PAT (cond c COIN_PAT (cond x (exit_art o) EMPTY_PAT)))))
unfolding table number
picked true w b c x o = refl
picked false true b c x o = refl
picked false false true c x o = refl
picked false false false true x o = refl
picked false false false false true o = refl
picked false false false false false o = refl

pub tile_columns_of : (cols : List ℕ) (t : Tiles) (code : ℕ) (o : Bool) → t ≡ tiles_of o → cols ≡ columns_in t code → cols ≡ columns_of (art_of code o)
unfolding columns_in art_of
tile_columns_of cols t code o e h =
    (rw e at h) ∙ picked (eqb code DIRT) (eqb code WALL) (eqb code BOULDER) (eqb code COIN) (eqb code EXIT) o

-- column gx of a stamp is one byte of the frame
module _ (col row gx : ℕ) (cols : List ℕ) (hc : col < 16) (hr : row < 7) (hg : gx < 8) where
  column_here : get_or cols gx 0 < 256 → get_or cols gx 0 ≡ page_byte (λ x y. stamp_lit col row cols x y && eqb (x % 8) gx) ((row + 1) * 128 + col * 8 + gx)
  column_here h = byte_of_lem (get_or cols gx 0) h ∙ number_ext 8 _ _ go
    where
      go : (j : ℕ) → j < 8 → bit_at (get_or cols gx 0) j
          ≡ (stamp_lit col row cols (((row + 1) * 128 + col * 8 + gx) % 128) (((row + 1) * 128 + col * 8 + gx) / 128 * 8 + j) && eqb (((row + 1) * 128 + col * 8 + gx) % 128 % 8) gx)
      go j l =
          let p : ((row + 1) * 128 + col * 8 + gx) % 128 ≡ col * 8 + gx = omega arith in
          let q : ((row + 1) * 128 + col * 8 + gx) / 128 ≡ row + 1 = omega arith in
          let r : (col * 8 + gx) / 8 ≡ col = omega arith in
          let s : (col * 8 + gx) % 8 ≡ gx = omega arith in
          let t : ((row + 1) * 8 + j) / 8 ≡ row + 1 = omega arith in
          let u : ((row + 1) * 8 + j) % 8 ≡ j = omega arith in
          rw (p, q, r, s, t, u, eq-eqb col col refl, eq-eqb (row + 1) (row + 1) refl, eq-eqb gx gx refl) (sym (and-true (bit_at (get_or cols gx 0) j)))

  column_off : (x y : ℕ) → x < 128 → y < 64 → (y / 8 * 128 + x ≡ (row + 1) * 128 + col * 8 + gx → ⊥) → (stamp_lit col row cols x y && eqb (x % 8) gx) ≡ false
  column_off x y hx hy n = go (same? (x % 8) gx)
    where
      go : (x % 8 ≡ gx) ⊎ (x % 8 ≡ gx → ⊥) → (stamp_lit col row cols x y && eqb (x % 8) gx) ≡ false
      go (inl a) = rw (stamp_off col row x y cols (λ b c. n (omega arith)))
      go (inr a) = rw (ne_eqb (x % 8) gx a) (and-false (stamp_lit col row cols x y))

  -- one more column of ink
  pub column_more : (old : ℕ → ℕ → Bool) (i : ℕ) → i ≡ (row + 1) * 128 + col * 8 + gx → get_or cols gx 0 < 256 →
      set (pack (parts old (stamp_lit col row cols) (λ x y. x % 8) gx)) i (bit_or (get_or (pack (parts old (stamp_lit col row cols) (λ x y. x % 8) gx)) i 0) (get_or cols gx 0))
      ≡ pack (parts old (stamp_lit col row cols) (λ x y. x % 8) (gx + 1))
  column_more old i e h =
      rw e
      (draw_packed ◌||◌ bit_or (number_or 8) or-false _ _ _ (omega arith) (column_here h) column_off (parts old (stamp_lit col row cols) (λ x y. x % 8) gx)
      ∙ parts_more old (stamp_lit col row cols) (λ x y. x % 8) gx)

-- the window's tile k, counted row by row
abbrev pub tile_no : ℕ → ℕ → ℕ
tile_no x y = (y / 8 - 1) * 16 + x / 8

module _ (cx cy x y : ℕ) (hx : x < 128) (hy : y < 64) where
  -- a stamp where one stands
  pub stamp_sprite : (x₀ y₀ : ℕ) (pat : List ℕ) → cx ≤ x₀ → cy ≤ y₀ → stamp_lit (x₀ - cx) (y₀ - cy) (columns_of pat) x y ≡ window cx cy (sprite_lit x₀ y₀ pat) x y
  stamp_sprite x₀ y₀ pat lx ly = go (below? y 8) (same? (x / 8) (x₀ - cx)) (same? (y / 8) (y₀ - cy + 1))
    where
      go : (y < 8) ⊎ (8 ≤ y) → (x / 8 ≡ x₀ - cx) ⊎ (x / 8 ≡ x₀ - cx → ⊥) → (y / 8 ≡ y₀ - cy + 1) ⊎ (y / 8 ≡ y₀ - cy + 1 → ⊥)
          → stamp_lit (x₀ - cx) (y₀ - cy) (columns_of pat) x y ≡ window cx cy (sprite_lit x₀ y₀ pat) x y
      go (inl h) a b = rw (lt-leb 8 y h) (stamp_off (x₀ - cx) (y₀ - cy) x y (columns_of pat) (λ d e. omega arith))
      go (inr h) (inl a) (inl b) =
          let q : (y - 8) % 8 ≡ y % 8 = omega arith in
          rw (le-leb 8 y h, eq-eqb x₀ (cx + x / 8) (omega arith), eq-eqb y₀ (cy + (y - 8) / 8) (omega arith), q) (stamp_on (x₀ - cx) (y₀ - cy) x y pat a b)
      go (inr h) (inl a) (inr b) =
          rw (le-leb 8 y h, eq-eqb x₀ (cx + x / 8) (omega arith), ne_eqb y₀ (cy + (y - 8) / 8) (λ e. b (omega arith)))
          (stamp_off (x₀ - cx) (y₀ - cy) x y (columns_of pat) (λ d e. b e))
      go (inr h) (inr a) b =
          rw (le-leb 8 y h, ne_eqb x₀ (cx + x / 8) (λ e. a (omega arith))) (stamp_off (x₀ - cx) (y₀ - cy) x y (columns_of pat) (λ d e. a d))

  -- the stamp of tile k
  pub stamp_tile : (k : ℕ) (g : List ℕ) (o : Bool)
      → stamp_lit (k % 16) (k / 16) (columns_of (art_of (code_in g (cx + k % 16) (cy + k / 16)) o)) x y ≡ (window cx cy (tile_lit g o) x y && eqb (tile_no x y) k)
  stamp_tile k g o = go (below? y 8) (same? (tile_no x y) k)
    where
      pat : List ℕ
      pat = art_of (code_in g (cx + k % 16) (cy + k / 16)) o

      go : (y < 8) ⊎ (8 ≤ y) → (tile_no x y ≡ k) ⊎ (tile_no x y ≡ k → ⊥) → stamp_lit (k % 16) (k / 16) (columns_of pat) x y ≡ (window cx cy (tile_lit g o) x y && eqb (tile_no x y) k)
      go (inl h) b = rw (lt-leb 8 y h) (stamp_off (k % 16) (k / 16) x y (columns_of pat) (λ d e. omega arith))
      go (inr h) (inl e) =
          let p : (y - 8) / 8 ≡ k / 16 = omega arith in
          let q : (y - 8) % 8 ≡ y % 8 = omega arith in
          let r : x / 8 ≡ k % 16 = omega arith in
          stamp_on (k % 16) (k / 16) x y pat r (omega arith)
          ∙ sym (rw (le-leb 8 y h, eq-eqb (tile_no x y) k e, p, q, r) (and-true (art_bit pat (x % 8) (y % 8))))
      go (inr h) (inr e) =
          stamp_off (k % 16) (k / 16) x y (columns_of pat) (λ d b. e (omega arith))
          ∙ sym (rw (ne_eqb (tile_no x y) k e) (and-false (window cx cy (tile_lit g o) x y)))

pub stamp_sprites : (cx cy x₀ y₀ : ℕ) (pat frame cols : List ℕ) → cx ≤ x₀ → cy ≤ y₀ → cols ≡ columns_of pat
    → inked frame (stamp_lit (x₀ - cx) (y₀ - cy) cols) ≡ inked frame (window cx cy (sprite_lit x₀ y₀ pat))
stamp_sprites cx cy x₀ y₀ pat frame cols lx ly e =
    rw e (pack_ext _ _ (λ x y hx hy. ap (λ (b : Bool). pixel frame x y || b) (stamp_sprite cx cy x y hx hy x₀ y₀ pat lx ly)))

-- one who stands on no cell of the window lights nothing
module _ (cx cy x y : ℕ) (pat frame : List ℕ) (e : Framed frame) (off : in_window cx cy x y ≡ false) where
  unlit_off : (a b : ℕ) → a < 128 → b < 64 → (x ≡ cx + a / 8) ⊎ (x ≡ cx + a / 8 → ⊥) → (y ≡ cy + (b - 8) / 8) ⊎ (y ≡ cy + (b - 8) / 8 → ⊥)
      → window cx cy (sprite_lit x y pat) a b ≡ false
  unlit_off a b ha hb (inl p) (inl q) =
      let on : in_window cx cy x y ≡ true =
      rw (le-leb cx x (omega arith), lt-ltb x (cx + 16) (omega arith), le-leb cy y (omega arith), lt-ltb y (cy + 7) (omega arith)) in
      absurd (true≢false (sym on ∙ off))
  unlit_off a b ha hb (inl p) (inr q) = rw (eq-eqb x (cx + a / 8) p, ne_eqb y (cy + (b - 8) / 8) q) (and-false (leb 8 b))
  unlit_off a b ha hb (inr p) q = rw (ne_eqb x (cx + a / 8) p) (and-false (leb 8 b))

  pub outside : frame ≡ inked frame (window cx cy (sprite_lit x y pat))
  outside = e ∙ pack_ext _ _ (λ a b ha hb. sym
      (ap (λ (t : Bool). pixel frame a b || t) (unlit_off a b ha hb (same? x (cx + a / 8)) (same? y (cy + (b - 8) / 8))) ∙ or-false (pixel frame a b)))
