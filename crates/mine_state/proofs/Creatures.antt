-- The creatures of a state: who is found, and where they stand. Assumes nothing.
use mathlib.Core.Bool.{Bool, true, false, ◌&&◌, ◌||◌, not}
use mathlib.Core.List.{List, [], ◌∷◌, ◌++◌}
use mathlib.Core.Path.{◌≡◌, refl, sym, ap₂}
use Prim.Native.Nat.{ℕ, zero, suc, ◌<◌, ◌≤◌}
use native.Mathlib.Omega.{arith}
use lib.Dec.{eqb, leb}
use lib.ListN.{get_or, drop, take, length-take}
use borrow.Author.Tests.{eqb-true, eqb-false, eq-eqb, ne_eqb, leb-true}
use Rattle.laws.specs.Lists.{all, any}
use Rattle.laws.proofs.Choice.{and_left, and_right, and_both}
use Rattle.laws.proofs.Lists.{all_at, any_append}
use Rattle.found.specs.First.{At}
use Rattle.found.proofs.First.{first_bound}
use Rattle.mine_state.specs.declared.Mine.{Mine}
use Rattle.mine_state.specs.declared.Enemy.{Enemy}
use Rattle.mine_state.specs.State.{W, H, on_grid, code_in, EMPTY, empty_at, creatures, stands_at, first_at, blank_slot}
use Rattle.mine_state.specs.WellFormed.{creature_ok, apart, is_blank}
use Rattle.mine_state.proofs.Cells.{on_grid_lem}
use Rattle.mine_state.specs.CodeState.{on_map, all_on_map}

-- who is found is one of the creatures
pub found_below : (m : Mine) (x y i n : ℕ) → first_at m x y ≡ At i n → i < m.count
found_below m x y i n e =
    let h = first_bound (stands_at x y) i n (creatures m) e in
    omega (arith, simp length-take at h)

eqb_sym : (a b : ℕ) → eqb a b ≡ eqb b a
eqb_sym a b = go (eqb b a) refl
  where
    go : (t : Bool) → eqb b a ≡ t → eqb a b ≡ t
    go true e = eq-eqb a b (sym (eqb-true b a e))
    go false e = ne_eqb a b (λ q. eqb-false b a e (sym q))

-- a stands where b does
abbrev pub with : Enemy → Enemy → Bool
with b a = stands_at b.x b.y a

pub with_sym : (a b : Enemy) → with a b ≡ with b a
with_sym a b = ap₂ ◌&&◌ (eqb_sym b.x a.x) (eqb_sym b.y a.y)

-- no two of a list and one more stand on one cell where no two of the list do, and it stands on no cell of theirs
pub apart_snoc : (l : List Enemy) (e : Enemy) → apart (l ++ (e ∷ [])) ≡ (apart l && not (any (with e) l))
apart_snoc [] e = refl
apart_snoc (d ∷ l) e =
    rw (any_append (with d) l (e ∷ []), apart_snoc l e, with_sym d e)
    (tests (any (with d) l) (with e d) (apart l) (any (with e) l))
  where
    tests : (a s p b : Bool) → (not (a || (s || false)) && (p && not b)) ≡ (not a && p && not (s || b))
    tests true s p b = refl
    tests false true true b = refl
    tests false true false b = refl
    tests false false p b = refl

-- a creature that is right is on the map, and so is a slot that holds zeros
creature-on_map : (g : List ℕ) (e : Enemy) → creature_ok g e ≡ true → on_map e ≡ true
unfolding empty_at
creature-on_map g e h =
    let on = and_left (empty_at g e.x e.y) (leb e.dir 3) h in
    and_both (on_grid e.x e.y) (leb e.dir 3)
    (and_left (on_grid e.x e.y) (eqb (code_in g e.x e.y) EMPTY) on)
    (and_right (empty_at g e.x e.y) (leb e.dir 3) h)

blank_on_map : (e : Enemy) → is_blank e ≡ true → on_map e ≡ true
blank_on_map e h =
    let two = and_left (eqb e.x 0 && eqb e.y 0) (eqb e.dir 0) h in
    let a = eqb-true e.x 0 (and_left (eqb e.x 0) (eqb e.y 0) two) in
    let b = eqb-true e.y 0 (and_right (eqb e.x 0) (eqb e.y 0) two) in
    let d = eqb-true e.dir 0 (and_right (eqb e.x 0 && eqb e.y 0) (eqb e.dir 0) h) in
    rw (a, b, d)

-- so all slots are on the map
pub slots-on_map : (g : List ℕ) (n : ℕ) (es : List Enemy) → all (creature_ok g) (take n es) ≡ true → all is_blank (drop n es) ≡ true → all_on_map es ≡ true
slots-on_map g n [] a b = refl
slots-on_map g zero (e ∷ es) a b =
    and_both (on_map e) (all_on_map es) (blank_on_map e (and_left (is_blank e) (all is_blank es) b))
    (slots-on_map g zero es refl (and_right (is_blank e) (all is_blank es) b))
slots-on_map g (suc n) (e ∷ es) a b =
    and_both (on_map e) (all_on_map es) (creature-on_map g e (and_left (creature_ok g e) (all (creature_ok g) (take n es)) a))
    (slots-on_map g n es (and_right (creature_ok g e) (all (creature_ok g) (take n es)) a) b)

-- where a slot on the map is
pub map-inside : (e : Enemy) → on_map e ≡ true → (e.x < W) × (e.y < H)
map-inside e h = on_grid_lem e.x e.y (and_left (on_grid e.x e.y) (leb e.dir 3) h)

pub map_dir : (e : Enemy) → on_map e ≡ true → e.dir ≤ 3
map_dir e h = leb-true e.dir 3 (and_right (on_grid e.x e.y) (leb e.dir 3) h)

-- the slot i is on the map
pub slot-on_map : (es : List Enemy) (i : ℕ) → all_on_map es ≡ true → on_map (get_or es i blank_slot) ≡ true
slot-on_map es i a = all_at on_map es i blank_slot a refl
