-- Creatures and the lists that they are taken apart into. Assumes nothing.
use mathlib.Core.Bool.{true, ◌&&◌}
use mathlib.Core.List.{List, [], ◌∷◌, map}
use mathlib.Core.Path.{◌≡◌, refl, sym, ◌∙◌, ap}
use Prim.Native.Nat.{ℕ, zero, suc, ◌+◌, ◌/◌, ◌%◌, ◌<◌}
use native.Mathlib.Nat.{le_of_suc-le-suc, not-suc-le-zero}
use native.Mathlib.Numerals.{add-one}
use native.Mathlib.Omega.{arith}
use lib.Dec.{eqb}
use lib.ListN.{length, get_or, set, drop, replicate}
use borrow.Author.Tests.{eqb-true}
use Rattle.laws.specs.Lists.{all}
use Rattle.laws.proofs.Choice.{and_left, and_right}
use Rattle.mine_state.specs.declared.Enemy.{Enemy}
use Rattle.mine_state.specs.State.{W, place, blank_slot}
use Rattle.mine_state.specs.WellFormed.{is_blank}
use Rattle.mine_state.proofs.Creatures.{map-inside}
use Rattle.mine_apart.specs.CodeApart.{dir_of, spots_from, creature, joined}
use Rattle.mine_state.specs.CodeState.{on_map, all_on_map}

suc_same : {a b : ℕ} → suc a ≡ suc b → a ≡ b
suc_same e = omega arith

-- lists as long as each other, put together: how many, none, one more
joined-none : (ss ds : List ℕ) → length ds ≡ length ss → replicate (length ss) blank_slot ≡ joined 0 ss ds
unfolding joined
joined-none [] ds l = refl
joined-none (s ∷ ss) [] l = absurd (omega arith)
joined-none (s ∷ ss) (d ∷ ds) l = ap (λ (t : List Enemy). blank_slot ∷ t) (joined-none ss ds (suc_same l))

pub length-joined : (n : ℕ) (ss ds : List ℕ) → length ds ≡ length ss → length (joined n ss ds) ≡ length ss
unfolding joined
length-joined n [] ds l = refl
length-joined n (s ∷ ss) [] l = absurd (omega arith)
length-joined zero (s ∷ ss) (d ∷ ds) l = ap suc (length-joined zero ss ds (suc_same l))
length-joined (suc n) (s ∷ ss) (d ∷ ds) l = ap suc (length-joined n ss ds (suc_same l))

joined_grown : (n : ℕ) (ss ds : List ℕ) → length ds ≡ length ss → n < length ss → set (joined n ss ds) n (creature (get_or ss n 0) (get_or ds n 0)) ≡ joined (suc n) ss ds
unfolding joined
joined_grown n [] ds l h = absurd (not-suc-le-zero h)
joined_grown n (s ∷ ss) [] l h = absurd (omega arith)
joined_grown zero (s ∷ ss) (d ∷ ds) l h = refl
joined_grown (suc n) (s ∷ ss) (d ∷ ds) l h = ap (λ (t : List Enemy). creature s d ∷ t) (joined_grown n ss ds (suc_same l) (le_of_suc-le-suc h))

pub joined-more : (n : ℕ) (ss ds : List ℕ) → length ds ≡ length ss → n < length ss → set (joined n ss ds) n (creature (get_or ss n 0) (get_or ds n 0)) ≡ joined (n + 1) ss ds
joined-more n ss ds l h = rw (add-one n) (joined_grown n ss ds l h)

pub joined_begins : (ss ds : List ℕ) {n : ℕ} → length ss ≡ n → length ds ≡ n → replicate n blank_slot ≡ joined 0 ss ds
joined_begins ss ds h l = rw (← h) (joined-none ss ds (l ∙ sym h))

-- the creature of a slot, one laid into a slot, and the last given up
pub joined_at : (n : ℕ) (ss ds : List ℕ) (i : ℕ) → length ds ≡ length ss → i < n → i < length ss → get_or (joined n ss ds) i blank_slot ≡ creature (get_or ss i 0) (get_or ds i 0)
unfolding joined
joined_at n [] ds i l k h = absurd (not-suc-le-zero h)
joined_at n (s ∷ ss) [] i l k h = absurd (omega arith)
joined_at zero (s ∷ ss) (d ∷ ds) i l k h = absurd (not-suc-le-zero k)
joined_at (suc n) (s ∷ ss) (d ∷ ds) zero l k h = refl
joined_at (suc n) (s ∷ ss) (d ∷ ds) (suc i) l k h = joined_at n ss ds i (suc_same l) (le_of_suc-le-suc k) (le_of_suc-le-suc h)

pub joined-set : (n : ℕ) (ss ds : List ℕ) (i s d : ℕ) → length ds ≡ length ss → i < n → joined n (set ss i s) (set ds i d) ≡ set (joined n ss ds) i (creature s d)
unfolding joined
joined-set n [] ds i s d l k = refl
joined-set n (a ∷ ss) [] i s d l k = absurd (omega arith)
joined-set zero (a ∷ ss) (b ∷ ds) i s d l k = absurd (not-suc-le-zero k)
joined-set (suc n) (a ∷ ss) (b ∷ ds) zero s d l k = refl
joined-set (suc n) (a ∷ ss) (b ∷ ds) (suc i) s d l k = ap (λ (t : List Enemy). creature a b ∷ t) (joined-set n ss ds i s d (suc_same l) (le_of_suc-le-suc k))

pub joined_less : (n : ℕ) (ss ds : List ℕ) (s d : ℕ) → length ds ≡ length ss → joined n (set ss n s) (set ds n d) ≡ set (joined (suc n) ss ds) n blank_slot
unfolding joined
joined_less n [] ds s d l = refl
joined_less n (a ∷ ss) [] s d l = absurd (omega arith)
joined_less zero (a ∷ ss) (b ∷ ds) s d l = refl
joined_less (suc n) (a ∷ ss) (b ∷ ds) s d l = ap (λ (t : List Enemy). creature a b ∷ t) (joined_less n ss ds s d (suc_same l))

-- a place tells its column and its row
pub creature_at_lem : (e : Enemy) → e.x < W → creature (place e.x e.y) e.dir ≡ e
creature_at_lem e h =
    let a : place e.x e.y % W ≡ e.x = omega arith in
    let b : place e.x e.y / W ≡ e.y = omega arith in
    rw (a, b)

blank_is : (e : Enemy) → is_blank e ≡ true → blank_slot ≡ e
blank_is e h =
    let two = and_left (eqb e.x 0 && eqb e.y 0) (eqb e.dir 0) h in
    let a = eqb-true e.x 0 (and_left (eqb e.x 0) (eqb e.y 0) two) in
    let b = eqb-true e.y 0 (and_right (eqb e.x 0) (eqb e.y 0) two) in
    let d = eqb-true e.dir 0 (and_right (eqb e.x 0 && eqb e.y 0) (eqb e.dir 0) h) in
    rw (a, b, d)

-- taken apart and put together
pub joined-parted : (n : ℕ) (es : List Enemy) → all_on_map es ≡ true → all is_blank (drop n es) ≡ true → joined n (spots_from n es) (map dir_of es) ≡ es
unfolding joined
joined-parted n [] p r = refl
joined-parted zero (e ∷ es) p r =
    ap (λ (t : List Enemy). blank_slot ∷ t) (joined-parted zero es (and_right (on_map e) (all_on_map es) p) (and_right (is_blank e) (all is_blank es) r))
    ∙ ap (λ (a : Enemy). a ∷ es) (blank_is e (and_left (is_blank e) (all is_blank es) r))
joined-parted (suc n) (e ∷ es) p r =
    ap (λ (t : List Enemy). creature (place e.x e.y) e.dir ∷ t) (joined-parted n es (and_right (on_map e) (all_on_map es) p) r)
    ∙ ap (λ (a : Enemy). a ∷ es) (creature_at_lem e (map-inside e (and_left (on_map e) (all_on_map es) p)).0)
