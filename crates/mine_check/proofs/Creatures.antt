-- A loop over the creatures: each right by itself, and no later one on its cell. Assumes nothing.
use mathlib.Core.Bool.{Bool, true, false, ◌&&◌, and_assoc, and-false}
use mathlib.Core.List.{List, [], ◌∷◌}
use mathlib.Core.Path.{◌≡◌, sym, fun_ext}
use Prim.Native.Nat.{ℕ, ◌+◌}
use lib.Dec.{eqb}
use lib.ListN.{drop}
use Rattle.laws.specs.Lists.{all, any}
use Rattle.mine_state.specs.declared.Enemy.{Enemy}
use Rattle.mine_state.specs.State.{stands_at}
use Rattle.mine_state.specs.WellFormed.{creature_ok, apart, is_blank}

abbrev pub right : List ℕ → List Enemy → Bool
right g l = all (creature_ok g) l && apart l

module _ (g : List ℕ) (l : List Enemy) (i : ℕ) {R : Bool} (q : right g (drop i l) ≡ R) where
  pub right_end : drop i l ≡ [] → true ≡ R
  right_end h = rw h at q

  module _ {e : Enemy} (h : drop i l ≡ e ∷ drop (i + 1) l) where
    pub right-more : creature_ok g e ≡ true → any (stands_at e.x e.y) (drop (i + 1) l) ≡ false → right g (drop (i + 1) l) ≡ R
    right-more t u = rw (h, t, u) at q

    pub right_fails : creature_ok g e ≡ false → false ≡ R
    right_fails t = rw (h, t) at q

    pub right-meets : any (stands_at e.x e.y) (drop (i + 1) l) ≡ true → false ≡ R
    right-meets u = rw (h, u, and-false) at q

-- a slot is blank: what `==` answers
pub blank_is : (λ (e : Enemy). eqb e.x 0 && (eqb e.y 0 && eqb e.dir 0)) ≡ is_blank
blank_is = fun_ext (λ e. sym (and_assoc (eqb e.x 0) (eqb e.y 0) (eqb e.dir 0)))

-- the parts of the answer, in its order
pub answer : (a b c d : Bool) {p : Bool} → a ≡ true → p ≡ (b && c) → (p && d) ≡ (a && b && c && d)
answer a b c d h e = rw (h, e)
