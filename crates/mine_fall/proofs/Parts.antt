-- Creatures by the arrays that they are taken apart into, and one that goes. Assumes nothing.
use mathlib.Core.Bool.{Bool, false}
use mathlib.Core.List.{List, []}
use mathlib.Core.Path.{◌≡◌, refl, sym, ◌∙◌, ap, subst}
use Prim.Native.Nat.{ℕ, zero, suc, ◌-◌, ◌<◌, ◌≤◌}
use native.Mathlib.Nat.{not-suc-le-zero}
use native.Mathlib.Omega.{arith}
use lib.ListN.{length, get_or, set, length-set}
use Rattle.laws.proofs.Lists.{all_set, get_or_default}
use Rattle.mine_state.specs.declared.Mine.{Mine}
use Rattle.mine_state.specs.declared.Enemy.{Enemy}
use Rattle.mine_state.specs.State.{AREA, blank_slot}
use Rattle.mine_state.proofs.Creatures.{slot-on_map}
use Rattle.mine_apart.specs.CodeApart.{joined, Spotted, Apart}
use Rattle.mine_apart.proofs.Joined.{length-joined, joined_at, joined-set, joined_less}
use Rattle.mine_apart.proofs.Places.{spots_without}
use Rattle.mine_rules.specs.Gravity.{without}
use Rattle.mine_fall.specs.declared.Fallen.{Fallen}
use Rattle.mine_fall.specs.CodePlaces.{left, whole}
use Rattle.mine_state.specs.CodeState.{on_map, Sound}

-- a state, where it doesn't matter which
abbrev pub nothing : Mine
nothing = record { grid = []; falling = []; px = 0; py = 0; enemies = []; count = 0; coins = 0; needed = 0; dead = false; won = false }

abbrev pub numbers : ℕ → ℕ → Bool → Fallen
numbers n c d = record { count = n; coins = c; dead = d }

-- the state of the lent arrays, places and directions among them
abbrev pub apart_state : Mine → ℕ → ℕ → List ℕ → List Bool → List ℕ → List ℕ → Fallen → Mine
apart_state m px py g f spots ds s = whole m px py g f (joined s.count spots ds) s

-- within a list it does not matter what stands past it
pub left_of : (l : List ℕ) (k last b d : ℕ) → last < length l → set (set l k (get_or l last d)) last b ≡ left l k last b
left_of l k last b d h = rw (get_or_default l last d 0 h)

-- with other numbers needed and won a state is as sound
pub sound-whole : (m m' : Mine) {es : List Enemy} → es ≡ m.enemies → Sound m → Sound (whole m' m.px m.py m.grid m.falling es (numbers m.count m.coins m.dead))
sound-whole m m' e s = rw e (record { cells = s.cells; marks = s.marks; slots = s.slots; few = s.few; placed = s.placed; home = s.home; coins = s.coins })

-- the creatures where the last takes the slot of one that goes
abbrev closed : List Enemy → ℕ → ℕ → List Enemy
closed es k last = set (set es k (get_or es last blank_slot)) last blank_slot

joined-closed : (n : ℕ) (ss ds : List ℕ) (k : ℕ) → length ds ≡ length ss → k < n → n ≤ length ss
    → joined (n - 1) (left ss k (n - 1) AREA) (left ds k (n - 1) 0) ≡ closed (joined n ss ds) k (n - 1)
joined-closed zero ss ds k l h b = absurd (not-suc-le-zero h)
joined-closed (suc n) ss ds k l h b =
    let q : suc n - 1 ≡ n = omega arith in
    rw q
    (joined_less n (set ss k (get_or ss n 0)) (set ds k (get_or ds n 0)) AREA 0 (simp length-set l)
    ∙ ap (λ (t : List Enemy). set t n blank_slot)
    (joined-set (suc n) ss ds k (get_or ss n 0) (get_or ds n 0) l h ∙ ap (set (joined (suc n) ss ds) k) (sym (joined_at (suc n) ss ds n l (omega arith) (omega arith)))))

-- a creature goes, the last takes its slot
module _ {n : ℕ} {spots ds : List ℕ} (a : Apart n spots ds) (k : ℕ) (h : k < n) where
  wide : length ds ≡ length spots
  wide = a.ways ∙ sym a.slots

  joined-left : joined (n - 1) (left spots k (n - 1) AREA) (left ds k (n - 1) 0) ≡ closed (joined n spots ds) k (n - 1)
  joined-left = joined-closed n spots ds k wide h (omega (arith, a.few, a.slots))

  spotted-left : Spotted (closed (joined n spots ds) k (n - 1)) (n - 1) (left spots k (n - 1) AREA)
  spotted-left =
      let es = joined n spots ds in
      let p = a.spotted.placed in
      record {
        placed = all_set on_map (set es k (get_or es (n - 1) blank_slot)) (n - 1) blank_slot (all_set on_map es k (get_or es (n - 1) blank_slot) p (slot-on_map es (n - 1) p)) refl;
        them = ap (λ (l : List ℕ). left l k (n - 1) AREA) a.spotted.them ∙ sym (spots_without n es k h (omega (arith, a.few, a.slots, length-joined n spots ds wide)));
      }

  pub apart-left : Apart (n - 1) (left spots k (n - 1) AREA) (left ds k (n - 1) 0)
  apart-left =
      record {
        slots = simp length-set a.slots;
        ways = simp length-set a.ways;
        few = omega (arith, a.few);
        spotted = subst (λ (es : List Enemy). Spotted es (n - 1) (left spots k (n - 1) AREA)) (sym joined-left) spotted-left;
      }

  pub without-one : (m : Mine) (px py : ℕ) (g : List ℕ) (f : List Bool) (c : ℕ) (d : Bool)
      → without (whole m px py g f (joined n spots ds) (numbers n c d)) k
      ≡ whole m px py g f (joined (n - 1) (left spots k (n - 1) AREA) (left ds k (n - 1) 0)) (numbers (n - 1) c d)
  unfolding without
  without-one m px py g f c d = ap (λ (es : List Enemy). whole m px py g f es (numbers (n - 1) c d)) (sym joined-left)
