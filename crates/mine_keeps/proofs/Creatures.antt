-- Lists of creatures, no two on one cell: one laid into another's slot, and one gone. Assumes nothing.
use mathlib.Core.Bool.{Bool, true, false, cond, ◌||◌, not}
use mathlib.Core.List.{List, [], ◌∷◌, ◌++◌}
use mathlib.Core.Path.{◌≡◌, refl, sym, ◌∙◌, ap}
use Prim.Native.Nat.{ℕ, zero, suc, ◌+◌}
use native.Mathlib.Omega.{arith}
use lib.Dec.{eqb}
use lib.ListN.{set}
use borrow.Author.Tests.{eqb-true, not-true}
use Rattle.laws.specs.Lists.{any, count}
use Rattle.laws.proofs.Lists.{any-set, any_append}
use Rattle.laws.proofs.Choice.{and_left, and_right, or_left, or_right}
use Rattle.found.specs.First.{first_from}
use Rattle.found.specs.First.{At, index}
use Rattle.found.proofs.First.{from_least}
use Rattle.mine_state.specs.declared.Enemy.{Enemy}
use Rattle.mine_state.specs.State.{stands_at}
use Rattle.mine_state.specs.WellFormed.{apart}
use Rattle.mine_state.proofs.Creatures.{with, with_sym, apart_snoc}

-- what holds of none of a list and of none of one more
pub any_last : (f : Enemy → Bool) (p : List Enemy) (v : Enemy) → any f (p ++ (v ∷ [])) ≡ false → (any f p ≡ false) × (f v ≡ false)
any_last f p v n =
    let q = sym (any_append f p (v ∷ [])) ∙ n in
    (or_left (any f p) (f v || false) q, or_left (f v) false (or_right (any f p) (f v || false) q))

pub apart_head : (e : Enemy) (l : List Enemy) → apart (e ∷ l) ≡ true → any (with e) l ≡ false
apart_head e l a = not-true (any (with e) l) (and_left (not (any (with e) l)) (apart l) a)

pub apart-tail : (e : Enemy) (l : List Enemy) → apart (e ∷ l) ≡ true → apart l ≡ true
apart-tail e l a = and_right (not (any (with e) l)) (apart l) a

-- a creature laid into a slot, where no other stands on its cell
pub apart-set : (l : List Enemy) (i : ℕ) (v : Enemy) → apart l ≡ true → any (with v) l ≡ false → apart (set l i v) ≡ true
apart-set [] i v a n = a
apart-set (e ∷ l) zero v a n = rw (or_right (with v e) (any (with v) l) n) (apart-tail e l a)
apart-set (e ∷ l) (suc i) v a n =
    let off = with_sym e v ∙ or_left (with v e) (any (with v) l) n in
    rw (any-set (with e) l i v (apart_head e l a) off) (apart-set l i v (apart-tail e l a) (or_right (with v e) (any (with v) l) n))

-- the last of a list stands apart from those before it
pub apart_last : (p : List Enemy) (v : Enemy) → apart (p ++ (v ∷ [])) ≡ true → (apart p ≡ true) × (any (with v) p ≡ false)
apart_last p v a =
    let both = sym (apart_snoc p v) ∙ a in
    (and_left (apart p) (not (any (with v) p)) both, not-true (any (with v) p) (and_right (apart p) (not (any (with v) p)) both))

there : (x y : ℕ) (d : Enemy) → stands_at x y d ≡ true → (x ≡ d.x) × (y ≡ d.y)
there x y d q =
    (sym (eqb-true d.x x (and_left (eqb d.x x) (eqb d.y y) q)), sym (eqb-true d.y y (and_right (eqb d.x x) (eqb d.y y) q)))

-- whoever is found on a cell is the only one there: where it goes, and v takes its slot, nobody is left
pub found_gone : (x y k j m : ℕ) (p : List Enemy) (v : Enemy) → apart (p ++ (v ∷ [])) ≡ true → first_from (stands_at x y) k (p ++ (v ∷ [])) ≡ At (k + j) m
    → any (stands_at x y) (set p j v) ≡ false
found_gone x y k j m [] v a e = refl
found_gone x y k zero m (d ∷ p) v a e = go (stands_at x y d) refl e
  where
    go : (b : Bool) → stands_at x y d ≡ b → cond b (At k (count (stands_at x y) (d ∷ p ++ (v ∷ [])))) (first_from (stands_at x y) (k + 1) (p ++ (v ∷ []))) ≡ At (k + 0) m
        → (stands_at x y v || any (stands_at x y) p) ≡ false
    go true q e =
        let w = there x y d q in
        let n = any_last (with d) p v (apart_head d (p ++ (v ∷ [])) a) in
        rw (w.0, w.1, n.1) n.0
    go false q e = absurd (let h = from_least (stands_at x y) (k + 1) (k + 0) m (p ++ (v ∷ [])) e in omega arith)
found_gone x y k (suc j) m (d ∷ p) v a e =
    go (stands_at x y d) e (λ q. found_gone x y (k + 1) j m p v (apart-tail d (p ++ (v ∷ [])) a) q)
  where
    go : (b : Bool) → cond b (At k (count (stands_at x y) (d ∷ p ++ (v ∷ [])))) (first_from (stands_at x y) (k + 1) (p ++ (v ∷ []))) ≡ At (k + suc j) m
        → (first_from (stands_at x y) (k + 1) (p ++ (v ∷ [])) ≡ At (k + 1 + j) m → any (stands_at x y) (set p j v) ≡ false) → (b || any (stands_at x y) (set p j v)) ≡ false
    go true e f = absurd (let z : k ≡ k + suc j = ap index e in omega arith)
    go false e f = let z : k + suc j ≡ k + 1 + j = omega arith in f (e ∙ ap (λ (i : ℕ). At i m) z)
