-- Places stand for the creatures: a search among the places finds the creature that a search among the creatures finds. Assumes nothing.
use Rattle.std.specs.Prelude.{None, Option, Some}
use mathlib.Core.Bool.{Bool, true, false, cond, ◌&&◌, not}
use mathlib.Core.List.{List, [], ◌∷◌}
use mathlib.Core.Path.{◌≡◌, refl, sym, ◌∙◌, ap, subst}
use Prim.Native.Nat.{ℕ, zero, suc, ◌+◌, ◌<◌, ◌≤◌, ◌-◌}
use native.Mathlib.Nat.{le_of_suc-le-suc, not-suc-le-zero}
use native.Mathlib.Omega.{arith}
use lib.Dec.{eqb, ltb}
use lib.ListN.{length, length-map, get_or, take, set}
use borrow.Author.Tests.{ne_eqb, ltb-true, ltb-false, lt-ltb, le-ltb}
use Rattle.laws.specs.Lists.{any}
use Rattle.laws.proofs.Choice.{and_left, and_right}
use Rattle.found.specs.First.{first_from, first, nobody, number}
use Rattle.found.specs.declared.Found.{Found}
use Rattle.found.specs.First.{At}
use Rattle.found.proofs.First.{from_number, nobody-any}
use Rattle.mine_state.specs.declared.Mine.{Mine}
use Rattle.mine_state.specs.declared.Enemy.{Enemy}
use Rattle.mine_state.specs.State.{W, H, AREA, place, stands_at, first_at, player_at, empty_at, free_at, blank_slot}
use Rattle.mine_state.specs.WellFormed.{WellFormed}
use Rattle.mine_state.proofs.Cells.{same_place, empty-inside}
use Rattle.mine_state.proofs.Creatures.{found_below, map-inside}
use Rattle.mine_state.proofs.Facts.{sound}
use Rattle.mine_apart.specs.declared.Parts.{Parts}
use Rattle.mine_apart.specs.CodeApart.{spot_of, dir_of, spots_from, parted, joined, is_spot, first_spot, free_spot, Spotted, Apart, Stand}
use Rattle.mine_apart.proofs.Joined.{joined-parted}
use Rattle.mine_state.specs.CodeState.{on_map, all_on_map}

-- no creature's place is AREA
off-place : (x y : ℕ) → x < W → y < H → is_spot (place x y) AREA ≡ false
off-place x y hx hy = ne_eqb AREA (place x y) (λ e. omega arith)

-- the search among places is the search among creatures
spots_search : (x y : ℕ) → x < W → y < H → (n k : ℕ) (l : List Enemy) → all_on_map l ≡ true
    → first_from (is_spot (place x y)) k (spots_from n l) ≡ first_from (stands_at x y) k (take n l)
spots_search x y hx hy n k [] a = take_none n
  where
    take_none : (n : ℕ) → None ≡ first_from (stands_at x y) k (take n [])
    take_none zero = refl
    take_none (suc n) = refl
spots_search x y hx hy zero k (e ∷ l) a =
    rw (off-place x y hx hy) (spots_search x y hx hy zero (k + 1) l (and_right (on_map e) (all_on_map l) a))
spots_search x y hx hy (suc n) k (e ∷ l) a =
    let b = (map-inside e (and_left (on_map e) (all_on_map l) a)).0 in
    let q = spots_search x y hx hy n (k + 1) l (and_right (on_map e) (all_on_map l) a) in
    let c = sym (from_number (is_spot (place x y)) (k + 1) (spots_from n l)) ∙ ap number q ∙ from_number (stands_at x y) (k + 1) (take n l) in
    rw (sym (same_place e.x e.y x y b hx), q, c)

ltb_step : (i n : ℕ) (t : Bool) → ltb i n ≡ t → ltb (suc i) (suc n) ≡ t
ltb_step i n true e = let h = ltb-true i n e in lt-ltb (suc i) (suc n) (omega arith)
ltb_step i n false e = let h = ltb-false i n e in le-ltb (suc i) (suc n) (omega arith)

-- the place that a slot has in the list of places
pub spot_told : (n : ℕ) (l : List Enemy) (i : ℕ) → i < length l → get_or (spots_from n l) i 0 ≡ cond (ltb i n) (spot_of (get_or l i blank_slot)) AREA
spot_told n [] i h = absurd (not-suc-le-zero h)
spot_told zero (e ∷ l) zero h = refl
spot_told (suc n) (e ∷ l) zero h = rw (lt-ltb 0 (suc n) (omega arith))
spot_told zero (e ∷ l) (suc i) h = rw (le-ltb (suc i) 0 (omega arith)) (rw (le-ltb i 0 (omega arith)) at (spot_told zero l i (le_of_suc-le-suc h)))
spot_told (suc n) (e ∷ l) (suc i) h = rw (ltb_step i n (ltb i n) refl) (spot_told n l i (le_of_suc-le-suc h))

pub length_spots : (n : ℕ) (l : List Enemy) → length (spots_from n l) ≡ length l
length_spots n [] = refl
length_spots zero (e ∷ l) = ap suc (length_spots zero l)
length_spots (suc n) (e ∷ l) = ap suc (length_spots n l)

-- each is a place, or AREA
pub spot_small : (n : ℕ) (l : List Enemy) (i : ℕ) → all_on_map l ≡ true → get_or (spots_from n l) i 0 ≤ AREA
spot_small n [] i a = omega arith
spot_small zero (e ∷ l) zero a = omega arith
spot_small (suc n) (e ∷ l) zero a = let h = map-inside e (and_left (on_map e) (all_on_map l) a) in omega (arith, h.0, h.1)
spot_small zero (e ∷ l) (suc i) a = spot_small zero l i (and_right (on_map e) (all_on_map l) a)
spot_small (suc n) (e ∷ l) (suc i) a = spot_small n l i (and_right (on_map e) (all_on_map l) a)

pub spot_inside : {n : ℕ} {spots ds : List ℕ} → Apart n spots ds → (i : ℕ) → get_or spots i 0 ≤ AREA
spot_inside {n} {spots} {ds} a i = rw a.spotted.them (spot_small n (joined n spots ds) i a.spotted.placed)

-- a creature laid into a slot, and the last slot given up
pub spots_set : (n : ℕ) (l : List Enemy) (k : ℕ) (e : Enemy) → k < n → spots_from n (set l k e) ≡ set (spots_from n l) k (spot_of e)
spots_set n [] k e h = refl
spots_set zero (d ∷ l) k e h = absurd (not-suc-le-zero h)
spots_set (suc n) (d ∷ l) zero e h = refl
spots_set (suc n) (d ∷ l) (suc k) e h = ap (λ (t : List ℕ). spot_of d ∷ t) (spots_set n l k e (le_of_suc-le-suc h))

spots_less : (n : ℕ) (l : List Enemy) (e : Enemy) → spots_from n (set l n e) ≡ set (spots_from (suc n) l) n AREA
spots_less n [] e = refl
spots_less zero (d ∷ l) e = refl
spots_less (suc n) (d ∷ l) e = ap (λ (t : List ℕ). spot_of d ∷ t) (spots_less n l e)

-- the place of a slot
spot_slot : (n : ℕ) (l : List Enemy) → n < length l → get_or (spots_from (suc n) l) n 0 ≡ spot_of (get_or l n blank_slot)
spot_slot n [] h = absurd (not-suc-le-zero h)
spot_slot zero (e ∷ l) h = refl
spot_slot (suc n) (e ∷ l) h = spot_slot n l (le_of_suc-le-suc h)

-- where a creature is squashed, its place goes as it goes: the last takes its place
pub spots_without : (n : ℕ) (l : List Enemy) (k : ℕ) → k < n → n ≤ length l
    → spots_from (n - 1) (set (set l k (get_or l (n - 1) blank_slot)) (n - 1) blank_slot) ≡ set (set (spots_from n l) k (get_or (spots_from n l) (n - 1) 0)) (n - 1) AREA
spots_without zero l k h b = absurd (not-suc-le-zero h)
spots_without (suc n) l k h b =
    let q : suc n - 1 ≡ n = omega arith in
    rw (q, spots_less n (set l k (get_or l n blank_slot)) blank_slot, spots_set (suc n) l k (get_or l n blank_slot) h, spot_slot n l b)

is-nobody : (r : Option Found) → nobody r ≡ true → None ≡ r
is-nobody None e = refl
is-nobody (Some f) e = absurd (let z : ◌≡◌ {A = ℕ} 0 1 = ap (λ (t : Bool). count_of t) e in omega arith)
  where
    count_of : Bool → ℕ
    count_of true = 1
    count_of false = 0

-- where a look at all slots sees nobody, nobody is found
pub unseen : {A : Type 0} (test : A → Bool) (l : List A) → any test l ≡ false → None ≡ first test l
unseen test l e = is-nobody (first test l) (nobody-any test l ∙ ap not e)

module _ (m : Mine) {spots : List ℕ} (s : Spotted m.enemies m.count spots) where
  pub first_spot_lem : (x y : ℕ) → x < W → y < H → first_spot (place x y) spots ≡ first_at m x y
  first_spot_lem x y hx hy = rw s.them (spots_search x y hx hy m.count 0 m.enemies s.placed)

  pub spot_below : (x y k j : ℕ) → x < W → y < H → first_spot (place x y) spots ≡ At k j → k < m.count
  spot_below x y k j hx hy e = found_below m x y k j (sym (first_spot_lem x y hx hy) ∙ e)

module _ {m : Mine} {spots : List ℕ} {player : ℕ} (s : Stand m spots player) where
  pub player_spot : (x y : ℕ) → x < W → eqb player (place x y) ≡ player_at m x y
  player_spot x y hx = rw s.you (sym (same_place m.px m.py x y s.home hx))

  pub free_spot_lem : (x y : ℕ) → free_spot m.grid spots player x y ≡ free_at m x y
  unfolding free_spot free_at
  free_spot_lem x y = go (empty_at m.grid x y) refl
    where
      go : (t : Bool) → empty_at m.grid x y ≡ t
          → (t && not (eqb player (place x y)) && nobody (first_spot (place x y) spots)) ≡ (t && not (player_at m x y) && nobody (first_at m x y))
      go true e =
          let h = empty-inside m.grid x y e in
          rw (player_spot x y h.0, first_spot_lem m s.spotted x y h.0 h.1)
      go false e = refl

-- the creatures of a well-formed state, taken apart
module _ (m : Mine) (w : WellFormed m) {r : Parts} (e : r ≡ parted m.enemies m.count) where
  pub whole_again : joined m.count r.spots r.dirs ≡ m.enemies
  whole_again = ap (λ (p : Parts). joined m.count p.spots p.dirs) e ∙ joined-parted m.count m.enemies (sound m w).placed w.rest

  pub spotted_of : Spotted m.enemies m.count r.spots
  spotted_of = record { placed = (sound m w).placed; them = ap (λ (p : Parts). p.spots) e }

  pub apart_of : Apart m.count r.spots r.dirs
  apart_of =
      record {
        slots = ap (λ (p : Parts). length p.spots) e ∙ length_spots m.count m.enemies ∙ w.slots;
        ways = ap (λ (p : Parts). length p.dirs) e ∙ length-map m.enemies dir_of ∙ w.slots;
        few = w.few;
        spotted = subst (λ (es : List Enemy). Spotted es m.count r.spots) (sym whole_again) spotted_of;
      }
