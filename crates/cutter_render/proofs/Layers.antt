-- The picture's layers, one drawn on the other. Assumes nothing.
use mathlib.Core.Path.{◌≡◌, refl, sym, ap, ◌∙◌}
use mathlib.Core.Bool.{Bool, ◌||◌, ◌&&◌, not, xor, and_assoc, and_comm, or_assoc}
use mathlib.Core.List.{List}
use mathlib.Core.Logic.{◌⊎◌, inl, inr}
use Prim.Native.Nat.{ℕ, ◌+◌, ◌*◌, ◌/◌, ◌<◌}
use native.Mathlib.Omega.{arith}
use borrow.Author.Tests.{eq-eqb, ne_eqb}
use lib.ListN.{length, get_or, take}
use Rattle.laws.specs.Lists.{any}
use Rattle.laws.proofs.Choice.{same?}
use Rattle.laws.proofs.Lists.{any-take}
use Rattle.laws.proofs.Below.{below_turn}
use Rattle.frame.specs.Frame.{pack, pixel}
use Rattle.frame.specs.CodeDraw.{inked, papered, inverted}
use Rattle.frame.proofs.Pack.{pack_ext}
use Rattle.frame.proofs.Draw.{drawn_pack, xor_false}
use Rattle.cutter_ground.specs.declared.Mover.{Mover}
use Rattle.cutter_state.specs.declared.Cutter.{Cutter}
use Rattle.cutter_state.specs.State.{creatures}
use Rattle.cutter_picture.specs.Picture.{dot_lit, cell_lit, ground_lit, mover_lit, no_life, cut_lit}
use Rattle.cutter_render.specs.CodeDraw.{column_lit}

-- one creature more
module _ (frame₀ : List ℕ) (es : List Mover) where
  pub movers_more : (i : ℕ) (d : Mover) (frame : List ℕ) → i < length es →
      frame ≡ inked frame₀ (λ x y. any (mover_lit x y) (take i es)) →
      inked frame (dot_lit ((get_or es i d).x * 2) ((get_or es i d).y * 2)) ≡ inked frame₀ (λ x y. any (mover_lit x y) (take (i + 1) es))
  movers_more i d frame h e =
      rw e
      (drawn_pack ◌||◌ _ _
      ∙ pack_ext _ _ (λ x y hx hy. or_assoc (pixel frame₀ x y) (any (mover_lit x y) (take i es)) (mover_lit x y (get_or es i d))
      ∙ ap (λ (b : Bool). pixel frame₀ x y || b) (sym (any-take (mover_lit x y) es i d h))))

-- one life more
module _ (frame₀ : List ℕ) where
  pub lives_more : (i : ℕ) (frame : List ℕ) → frame ≡ pack (λ x y. pixel frame₀ x y && no_life i x y) →
      papered frame (dot_lit (2 + 3 * i) 0) ≡ pack (λ x y. pixel frame₀ x y && no_life (i + 1) x y)
  lives_more i frame e =
      rw e
      (drawn_pack (λ b t. b && not t) _ (dot_lit (2 + 3 * i) 0)
      ∙ pack_ext _ _ (λ x y hx hy. and_assoc (pixel frame₀ x y) (no_life i x y) (not (dot_lit (2 + 3 * i) 0 x y))
      ∙ ap (λ (b : Bool). pixel frame₀ x y && b) (and_comm (no_life i x y) (not (dot_lit (2 + 3 * i) 0 x y)) ∙ below_turn (λ k. not (dot_lit (2 + 3 * k) 0 x y)) i refl refl)))

-- a cell is two columns
two : (p : Bool) (px py x y : ℕ) → xor (xor p (column_lit (2 * px) py x y)) (column_lit (2 * px + 1) py x y) ≡ xor p (cell_lit px py x y)
two p px py x y = go p (same? (2 * px) x) (same? (2 * px + 1) x)
  where
    go : (b : Bool) → (2 * px ≡ x) ⊎ (2 * px ≡ x → ⊥) → (2 * px + 1 ≡ x) ⊎ (2 * px + 1 ≡ x → ⊥)
        → xor (xor b (column_lit (2 * px) py x y)) (column_lit (2 * px + 1) py x y) ≡ xor b (cell_lit px py x y)
    go b (inl e) f = rw (eq-eqb (2 * px) x e, ne_eqb (2 * px + 1) x (λ z. omega arith), eq-eqb px (x / 2) (omega arith)) (xor_false _)
    go b (inr e) (inl f) = rw (ne_eqb (2 * px) x e, eq-eqb (2 * px + 1) x f, eq-eqb px (x / 2) (omega arith), xor_false b)
    go b (inr e) (inr f) = rw (ne_eqb (2 * px) x e, ne_eqb (2 * px + 1) x f, ne_eqb px (x / 2) (λ z. omega arith)) (xor_false _)

pub both-columns : (frame₀ frame : List ℕ) (px py : ℕ) → frame ≡ inverted frame₀ (column_lit (2 * px) py)
    → inverted frame (column_lit (2 * px + 1) py) ≡ inverted frame₀ (cell_lit px py)
both-columns frame₀ frame px py e =
    rw e (drawn_pack xor _ _ ∙ pack_ext _ _ (λ x y hx hy. two (pixel frame₀ x y) px py x y))

-- the whole picture
pub whole : (c : Cutter) (f₁ f₂ f₃ f₄ : List ℕ) →
    f₁ ≡ pack (ground_lit c.grid) →
    f₂ ≡ inked f₁ (λ x y. any (mover_lit x y) (creatures c)) →
    f₃ ≡ inverted f₂ (cell_lit c.px c.py) →
    f₄ ≡ pack (λ x y. pixel f₃ x y && no_life c.lives x y) →
    f₄ ≡ pack (cut_lit c)
unfolding cut_lit
whole c f₁ f₂ f₃ f₄ e₁ e₂ e₃ e₄ =
    let d₂ = rw e₁ at e₂ ∙ drawn_pack ◌||◌ (ground_lit c.grid) (λ x y. any (mover_lit x y) (creatures c)) in
    let d₃ = rw d₂ at e₃ ∙ drawn_pack xor _ (cell_lit c.px c.py) in
    rw d₃ at e₄ ∙ drawn_pack ◌&&◌ _ (no_life c.lives)
