-- What a sweep keeps; numbers which a sweep leaves as they are are the right labelling; and there are such numbers. Assumes nothing.
use mathlib.Core.Path.{◌≡◌, refl, sym, ap, subst, ◌∙◌}
use mathlib.Core.List.{List, [], ◌∷◌}
use mathlib.Core.Logic.{◌⊎◌, inl, inr, ⊎_elim}
use Prim.Native.Nat.{ℕ, zero, suc, ◌+◌, ◌≤◌, ◌<◌, min}
use native.Mathlib.Nat.{not-suc-le-zero, le_of_suc-le-suc}
use native.Mathlib.Omega.{arith}
use borrow.Author.Tests.{eq-eqb, ne_eqb}
use lib.ListN.{length, get_or, set, length-set}
use lib.Seq.{get_or-set_same, get_or-set_other, set-get_or}
use Rattle.laws.specs.Lists.{across}
use Rattle.laws.proofs.Choice.{below?, same?}
use Rattle.laws.proofs.Folds.{across-keeps, across-still}
use Rattle.cutter_ground.specs.Cells.{CN, cell_at, CB_BLACK, left_of, right_of, up_of, down_of}
use Rattle.cutter_joined.specs.Joined.{Black, Joined, Right}
use Rattle.cutter_joined.proofs.Joined.{black_in_lem, black?, right_unique}
use Rattle.cutter_joined.proofs.Labels as labelled
use Rattle.cutter_joined.proofs.Labels.{Low, total, least-black, settled_at, labels}
use Rattle.cutter_sweeps.specs.Sweeps.{owns, lower, low, lowered, sweep, Sweeps, begun, again, Settled}

-- ---- one cell

pub lower_in : (g L : List ℕ) (d v : ℕ) → Black g d → lower g L d v ≡ min (get_or L d CN) v
unfolding lower
lower_in g L d v k = rw (eq-eqb (cell_at g d) CB_BLACK k)

pub lower_out : (g L : List ℕ) (d v : ℕ) → (Black g d → ⊥) → lower g L d v ≡ v
unfolding lower
lower_out g L d v k = rw (ne_eqb (cell_at g d) CB_BLACK k)

low-least : (g L : List ℕ) (c : ℕ) → low g L c ≡ labelled.least g L c
unfolding low lower labelled.least labelled.lower
low-least g L c = refl

lower_le : (g L : List ℕ) (d v : ℕ) → lower g L d v ≤ v
lower_le g L d v = ⊎_elim (λ k. omega (arith, lower_in g L d v k)) (λ k. omega (arith, lower_out g L d v k)) (black? g d)

pub low_le : (g L : List ℕ) (c : ℕ) → low g L c ≤ get_or L c CN
unfolding low
low_le g L c =
    let a = lower_le g L (down_of c) (get_or L c CN) in
    let b = lower_le g L (up_of c) (lower g L (down_of c) (get_or L c CN)) in
    let d = lower_le g L (right_of c) (lower g L (up_of c) (lower g L (down_of c) (get_or L c CN))) in
    let e = lower_le g L (left_of c) (lower g L (right_of c) (lower g L (up_of c) (lower g L (down_of c) (get_or L c CN)))) in
    omega arith

pub lowered_in : (g L : List ℕ) (c : ℕ) → Black g c → lowered g L c ≡ set L c (low g L c)
unfolding lowered
lowered_in g L c k = rw (eq-eqb (cell_at g c) CB_BLACK k)

pub lowered_out : (g L : List ℕ) (c : ℕ) → (Black g c → ⊥) → lowered g L c ≡ L
unfolding lowered
lowered_out g L c k = rw (ne_eqb (cell_at g c) CB_BLACK k)

pub lowered-same : (g L : List ℕ) (c : ℕ) → (Black g c → low g L c ≡ get_or L c CN) → lowered g L c ≡ L
lowered-same g L c e = ⊎_elim (λ k. lowered_in g L c k ∙ ap (set L c) (e k) ∙ set-get_or L c CN) (λ k. lowered_out g L c k) (black? g c)

lowered-length : (g L : List ℕ) (c : ℕ) → length (lowered g L c) ≡ length L
lowered-length g L c = ⊎_elim (λ k. ap length (lowered_in g L c k) ∙ length-set L c (low g L c)) (λ k. ap length (lowered_out g L c k)) (black? g c)

-- ---- what every sweep keeps

module _ {g L : List ℕ} (long : length g ≡ CN) (l : Low g L) where
  low-set : (c : ℕ) → Black g c → Low g (set L c (low g L c))
  low-set c k =
      let inn : c < length L = omega (arith, l.len, long, black_in_lem g c k) in
      record {
        len = length-set L c (low g L c) ∙ l.len;
        own = λ x b. ⊎_elim (λ e. rw e.1 (subst (Joined g (low g L c)) (sym e.0) low-joined)) (λ e. rw e.1 (l.own x b)) (put_at x inn);
        small = λ x b. ⊎_elim (λ e. omega (arith, e.0, e.1, low_le g L c, l.small c k)) (λ e. omega (arith, e.1, l.small x b)) (put_at x inn);
        other = λ x b. ⊎_elim (λ e. absurd (b (subst (Black g) (sym e.0) k))) (λ e. e.1 ∙ l.other x b) (put_at x inn);
      }
    where
      low-joined : Joined g (low g L c) c
      low-joined = rw (low-least g L c) (least-black long l c k).0

      put_at : (x : ℕ) → c < length L → ((x ≡ c) × (get_or (set L c (low g L c)) x CN ≡ low g L c)) ⊎ ((x ≡ c → ⊥) × (get_or (set L c (low g L c)) x CN ≡ get_or L x CN))
      put_at x h =
          ⊎_elim (λ e. inl (e, subst (λ (n : ℕ). get_or (set L c (low g L c)) n CN ≡ low g L c) (sym e) (get_or-set_same L c (low g L c) CN h)))
          (λ n. inr (n, get_or-set_other L c x (low g L c) CN n)) (same? x c)

  lowered-low : (c : ℕ) → Low g (lowered g L c)
  lowered-low c = ⊎_elim (λ k. rw (lowered_in g L c k) (low-set c k)) (λ k. rw (lowered_out g L c k) l) (black? g c)

sweep-low : {g L : List ℕ} → length g ≡ CN → Low g L → Low g (sweep g L)
unfolding sweep
sweep-low {g} {L} long l = across-keeps (lowered g) (Low g) CN CN 0 L (omega arith) (λ t j h p. lowered-low long p j) l

owns-low : (g : List ℕ) → length g ≡ CN → Low g (owns g)
unfolding owns labelled.owns
owns-low g long = labelled.owns-low g long

pub sweeps-low : {g L : List ℕ} → length g ≡ CN → Sweeps g L → Low g L
sweeps-low {g} long begun = owns-low g long
sweeps-low long (again s) = sweep-low long (sweeps-low long s)

-- ---- the sum falls with each change

pub total_set : (l : List ℕ) (i v d : ℕ) → i < length l → total (set l i v) + get_or l i d ≡ total l + v
unfolding total
total_set [] i v d h = absurd (not-suc-le-zero h)
total_set (x ∷ xs) zero v d h = omega arith
total_set (x ∷ xs) (suc i) v d h = let r = total_set xs i v d (le_of_suc-le-suc h) in omega arith

lowered_total : (g L : List ℕ) (c : ℕ) → c < length L → total (lowered g L c) ≤ total L
lowered_total g L c h =
    ⊎_elim (λ k. omega (arith, ap total (lowered_in g L c k), total_set L c (low g L c) CN h, low_le g L c))
    (λ k. omega (arith, ap total (lowered_out g L c k))) (black? g c)

across_total : (g : List ℕ) (k i : ℕ) (L : List ℕ) → k + i ≤ length L → total (across (lowered g) k i L) ≤ total L
across_total g zero i L h = omega arith
across_total g (suc k) i L h = omega (arith, across_total g k (i + 1) (lowered g L i) (omega (arith, lowered-length g L i)), lowered_total g L i (omega arith))

-- cells that leave the sum leave each number
still-each : (g : List ℕ) (k i : ℕ) (L : List ℕ) → k + i ≤ length L → total L ≤ total (across (lowered g) k i L) → (c : ℕ) → i ≤ c → c < k + i → Black g c → low g L c ≡ get_or L c CN
still-each g zero i L h t c a b m = absurd (omega arith)
still-each g (suc k) i L h t c a b m =
    let rest = across_total g k (i + 1) (lowered g L i) (omega (arith, lowered-length g L i)) in
    let first : Black g i → low g L i ≡ get_or L i CN = λ q. omega (arith, rest, ap total (lowered_in g L i q), total_set L i (low g L i) CN (omega arith), low_le g L i) in
    let same = subst (λ (M : List ℕ). total L ≤ total (across (lowered g) k (i + 1) M)) (lowered-same g L i first) t in
    ⊎_elim (λ l. still-each g k (i + 1) L (omega arith) same c (omega arith) (omega arith) m)
    (λ l. let e : i ≡ c = omega arith in subst (λ (n : ℕ). low g L n ≡ get_or L n CN) e (first (subst (Black g) (sym e) m)))
    (below? i c)

module _ {g L : List ℕ} (long : length g ≡ CN) (l : Low g L) (t : total L ≤ total (sweep g L)) where
  still-low : (c : ℕ) → Black g c → low g L c ≡ get_or L c CN
  unfolding sweep
  still-low c k = still-each g CN 0 L (omega (arith, l.len)) t c (omega arith) (omega (arith, long, black_in_lem g c k)) k

  still-sweep : sweep g L ≡ L
  unfolding sweep
  still-sweep = across-still (lowered g) CN CN 0 L (omega arith) (λ c h. lowered-same g L c (still-low c))

-- numbers that sweeps reach and a sweep leaves are the right labelling
pub settled-right : {g L : List ℕ} → length g ≡ CN → Settled g L → Right g L
settled-right {g} {L} long s =
    let l = sweeps-low long s.reached in
    let e = ap total s.still in
    settled_at long l (λ c k. sym (low-least g L c) ∙ still-low long l (omega arith) c k)

pub settled_labels : {g L : List ℕ} → length g ≡ CN → Settled g L → L ≡ (labels g).0
settled_labels {g} long s = right_unique (settled-right long s) ((labels g).1 long)

-- ---- it settles

settles : (g : List ℕ) → length g ≡ CN → (n : ℕ) (L : List ℕ) → Sweeps g L → total L ≤ n → (M : List ℕ) × Settled g M
settles g long zero L s h = (L, record { reached = s; still = still-sweep long (sweeps-low long s) (omega arith) })
settles g long (suc n) L s h =
    ⊎_elim (λ w. settles g long n (sweep g L) (again s) (omega arith)) (λ w. (L, record { reached = s; still = still-sweep long (sweeps-low long s) w }))
    (below? (total (sweep g L)) (total L))

pub sweeps-settle : (g : List ℕ) → length g ≡ CN → (L : List ℕ) × Settled g L
sweeps-settle g long = settles g long (total (owns g)) (owns g) begun (omega arith)

-- The numbers that sweeps leave. Its type is all there is to believe: a grid of CN cells has them, and they are `labels` (`settled-labels`).
pub settled : (g : List ℕ) → (L : List ℕ) × (length g ≡ CN → Settled g L)
settled g = ⊎_elim (λ e. let x = sweeps-settle g e in (x.0, λ _. x.1)) (λ n. ([], λ e. absurd (n e))) (same? (length g) CN)
