-- The picture's layers, one drawn on the other. Assumes nothing.
use mathlib.Core.Path.{◌≡◌, refl, sym, ap, ◌∙◌}
use mathlib.Core.Bool.{Bool, true, false, ◌||◌, ◌&&◌, or_assoc, or-false, and-or_distrib_right}
use mathlib.Core.List.{List}
use Prim.Native.Nat.{ℕ, ◌+◌, ◌-◌, ◌/◌, ◌%◌, ◌<◌}
use lib.Dec.{leb}
use lib.ListN.{length, get_or, take, replicate, length-replicate, get_or-replicate}
use Rattle.laws.specs.Lists.{any}
use Rattle.laws.proofs.Lists.{any-take}
use Rattle.bits.specs.Bits.{art_bit}
use Rattle.bits.proofs.Number.{number-none}
use Rattle.frame.specs.Frame.{FRAME_LEN, pack, pixel}
use Rattle.frame.specs.CodeDraw.{unlit, inked}
use Rattle.frame.proofs.Pack.{pack_ext}
use Rattle.frame.proofs.Draw.{drawn_pack, packed, parts, parts_more}
use Rattle.mine_state.specs.declared.Enemy.{Enemy}
use Rattle.mine_state.specs.declared.Mine.{Mine}
use Rattle.mine_state.specs.State.{code_in, stands_at, creatures}
use Rattle.mine_picture.specs.Art.{art_of, ENEMY_PAT, PLAYER_PAT}
use Rattle.mine_picture.specs.Picture.{left, top, is_open, window, mine_lit, cell_lit}
use Rattle.mine_render.specs.CodeDraw.{columns_of, stamp_lit, tile_lit, sprite_lit, enemies_lit}
use Rattle.mine_render.proofs.Stamp.{stamp_tile, tile_no}

-- one tile more
pub tile_more : (old : ℕ → ℕ → Bool) (cx cy k : ℕ) (g : List ℕ) (o : Bool) (frame cols : List ℕ) →
    frame ≡ pack (parts old (window cx cy (tile_lit g o)) tile_no k) →
    cols ≡ columns_of (art_of (code_in g (cx + k % 16) (cy + k / 16)) o) →
    inked frame (stamp_lit (k % 16) (k / 16) cols) ≡ pack (parts old (window cx cy (tile_lit g o)) tile_no (k + 1))
tile_more old cx cy k g o frame cols e h =
    rw (e, h)
    (drawn_pack ◌||◌ (parts old (window cx cy (tile_lit g o)) tile_no k) (stamp_lit (k % 16) (k / 16) (columns_of (art_of (code_in g (cx + k % 16) (cy + k / 16)) o)))
    ∙ pack_ext _ _ (λ x y hx hy. ap (λ (b : Bool). parts old (window cx cy (tile_lit g o)) tile_no k x y || b) (stamp_tile cx cy x y hx hy k g o))
    ∙ parts_more old (window cx cy (tile_lit g o)) tile_no k)

-- a frame of zeros is blank
pub blank : (frame : List ℕ) (n : ℕ) → n ≡ FRAME_LEN → frame ≡ replicate n 0 → frame ≡ pack unlit
blank frame n e h =
    rw (h, e) (packed (replicate FRAME_LEN 0) unlit (length-replicate {A = ℕ} FRAME_LEN 0) (λ k l. get_or-replicate {A = ℕ} FRAME_LEN k 0 0 l ∙ sym (number-none 8)))

-- one creature more
layer : (p h s t r : Bool) → (p || (h && (s && r)) || (h && (t && r))) ≡ (p || (h && ((s || t) && r)))
layer p true s t r = or_assoc p (s && r) (t && r) ∙ ap (λ (b : Bool). p || b) (sym (and-or_distrib_right s t r))
layer p false s t r = or-false (p || false)

module _ (frame₀ : List ℕ) (es : List Enemy) (cx cy : ℕ) where
  pub enemies_more : (i : ℕ) (d : Enemy) (frame : List ℕ) → i < length es →
      frame ≡ inked frame₀ (window cx cy (enemies_lit (take i es))) →
      inked frame (window cx cy (sprite_lit (get_or es i d).x (get_or es i d).y ENEMY_PAT)) ≡ inked frame₀ (window cx cy (enemies_lit (take (i + 1) es)))
  enemies_more i d frame h e =
      rw e
      (drawn_pack ◌||◌ _ _
      ∙ pack_ext _ _ (λ x y hx hy. layer (pixel frame₀ x y) (leb 8 y) (any (stands_at (cx + x / 8) (cy + (y - 8) / 8)) (take i es))
      (stands_at (cx + x / 8) (cy + (y - 8) / 8) (get_or es i d)) (art_bit ENEMY_PAT (x % 8) ((y - 8) % 8))
      ∙ ap (λ (b : Bool). pixel frame₀ x y || (leb 8 y && (b && art_bit ENEMY_PAT (x % 8) ((y - 8) % 8)))) (sym (any-take (stands_at (cx + x / 8) (cy + (y - 8) / 8)) es i d h))))

-- the whole picture: the tiles on a blank frame, the creatures on them, the player on these
stack : (h a b c : Bool) → (false || (h && a) || (h && b) || (h && c)) ≡ (h && (a || b || c))
stack true a b c = refl
stack false a b c = refl

pub whole : (m : Mine) (cx cy : ℕ) (f₁ f₂ f₃ f₄ : List ℕ) → cx ≡ left m → cy ≡ top m →
    f₁ ≡ pack unlit →
    f₂ ≡ inked f₁ (window cx cy (tile_lit m.grid (is_open m))) →
    f₃ ≡ inked f₂ (window cx cy (enemies_lit (creatures m))) →
    f₄ ≡ inked f₃ (window cx cy (sprite_lit m.px m.py PLAYER_PAT)) →
    f₄ ≡ pack (mine_lit m)
unfolding mine_lit cell_lit
whole m cx cy f₁ f₂ f₃ f₄ p q e₁ e₂ e₃ e₄ =
    let d₂ = rw e₁ at e₂ ∙ drawn_pack ◌||◌ unlit (window cx cy (tile_lit m.grid (is_open m))) in
    let d₃ = rw d₂ at e₃ ∙ drawn_pack ◌||◌ _ (window cx cy (enemies_lit (creatures m))) in
    let d₄ = rw d₃ at e₄ ∙ drawn_pack ◌||◌ _ (window cx cy (sprite_lit m.px m.py PLAYER_PAT)) in
    (rw (p, q) at d₄) ∙ pack_ext _ _ (λ x y hx hy. stack (leb 8 y) _ _ _)
