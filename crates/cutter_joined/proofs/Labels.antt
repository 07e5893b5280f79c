-- Every grid has a right labelling: each black cell begins with its own number, and sweeps lower it to the least among its own and its black
-- neighbours' until nothing changes. What is left is right. Assumes nothing.
use mathlib.Core.Path.{◌≡◌, refl, sym, ap, ap₂, subst, ◌∙◌}
use mathlib.Core.Bool.{cond}
use mathlib.Core.List.{List, [], ◌∷◌}
use mathlib.Core.Logic.{◌⊎◌, inl, inr, ⊎_elim}
use Prim.Native.Nat.{ℕ, zero, suc, ◌+◌, ◌≤◌, ◌<◌, min}
use native.Mathlib.Omega.{arith}
use borrow.Author.Tests.{eq-eqb, ne_eqb}
use lib.ListN.{length, get_or, get_or-eq_default}
use Rattle.laws.specs.Lists.{table}
use Rattle.laws.proofs.Choice.{below?, same?}
use Rattle.laws.proofs.Table.{length-table, get_or-table_lem}
use Rattle.cutter_ground.specs.Cells.{CN, black_at, cell_at, CB_BLACK, left_of, right_of, up_of, down_of}
use Rattle.cutter_joined.specs.Joined.{Black, Next, Joined, here, step, Right}
use Rattle.cutter_joined.proofs.Joined.{black_in_lem, black_last, black-first, next_sym, closed, black?}
use Rattle.cutter_joined.proofs.Steps.{left-next, right-next, up_next, down-next, one_of}

-- the number v, or the cell d's where d is black and its number is less
unfoldable pub lower : List ℕ → List ℕ → ℕ → ℕ → ℕ
lower g L d v = cond (black_at g d) (min (get_or L d CN) v) v

-- the least among a cell's number and its black neighbours'
unfoldable pub least : List ℕ → List ℕ → ℕ → ℕ
least g L c = lower g L (left_of c) (lower g L (right_of c) (lower g L (up_of c) (lower g L (down_of c) (get_or L c CN))))

unfoldable low : List ℕ → List ℕ → ℕ → ℕ
low g L c = cond (black_at g c) (least g L c) CN

unfoldable sweep : List ℕ → List ℕ → List ℕ
sweep g L = table CN (low g L)

-- each black cell's own number
unfoldable pub owns : List ℕ → List ℕ
owns g = table CN (λ c. cond (black_at g c) c CN)

-- what every sweep keeps
pub record Low (g L : List ℕ) : Type 0 where
  pub len : length L ≡ CN
  pub own : (c : ℕ) → Black g c → Joined g (get_or L c CN) c
  pub small : (c : ℕ) → Black g c → get_or L c CN ≤ c
  pub other : (c : ℕ) → (Black g c → ⊥) → get_or L c CN ≡ CN

-- w is v lowered by d's number
record Lowered (g L : List ℕ) (c d v w : ℕ) : Type 0 where
  joined : Joined g w c
  less : w ≤ v
  under : Black g d → w ≤ get_or L d CN

min_either : (P : ℕ → Type 0) (a b : ℕ) → P a → P b → P (min a b)
min_either P a b p q = ⊎_elim (λ h. let e : a ≡ min a b = omega arith in subst P e p) (λ h. let e : b ≡ min a b = omega arith in subst P e q) (below? a b)

module _ {g L : List ℕ} (long : length g ≡ CN) (l : Low g L) where
  lower_ok : (c d v : ℕ) → (Black g d → Next c d) → Joined g v c → Lowered g L c d v (lower g L d v)
  unfolding lower
  lower_ok c d v n j =
      ⊎_elim
      (λ (k : Black g d). rw (eq-eqb (cell_at g d) CB_BLACK k)
      (record {
        joined = min_either (λ w. Joined g w c) (get_or L d CN) v (step (l.own d k) (next_sym (n k)) (black_last j)) j;
        less = omega arith;
        under = λ _. omega arith;
      }))
      (λ (k : Black g d → ⊥). rw (ne_eqb (cell_at g d) CB_BLACK k) (record { joined = j; less = omega arith; under = λ b. absurd (k b) }))
      (black? g d)

  pub least-black : (c : ℕ) → Black g c → Joined g (least g L c) c × (least g L c ≤ get_or L c CN) × ((d : ℕ) → Next c d → Black g d → least g L c ≤ get_or L d CN)
  unfolding least
  least-black c k =
      let a = lower_ok c (down_of c) (get_or L c CN) (down-next g long c) (l.own c k) in
      let b = lower_ok c (up_of c) _ (up_next g long c) a.joined in
      let d = lower_ok c (right_of c) _ (right-next g long c) b.joined in
      let e = lower_ok c (left_of c) _ (left-next g long c) d.joined in (
        e.joined,
        omega (arith, a.less, b.less, d.less, e.less),
        λ x n m.
            one_of g long c (λ x. Black g x → lower g L (left_of c) (lower g L (right_of c) (lower g L (up_of c) (lower g L (down_of c) (get_or L c CN)))) ≤ get_or L x CN)
            (λ m. e.under m) (λ m. omega (arith, d.under m, e.less)) (λ m. omega (arith, b.under m, d.less, e.less))
            (λ m. omega (arith, a.under m, b.less, d.less, e.less))
            x n m m,
      )

  low-black : (c : ℕ) → Black g c → low g L c ≡ least g L c
  unfolding low
  low-black c k = rw (eq-eqb (cell_at g c) CB_BLACK k)

  low-other : (c : ℕ) → (Black g c → ⊥) → low g L c ≡ CN
  unfolding low
  low-other c k = rw (ne_eqb (cell_at g c) CB_BLACK k)

  sweep_at : (c : ℕ) → c < CN → get_or (sweep g L) c CN ≡ low g L c
  unfolding sweep
  sweep_at c h = get_or-table_lem CN (low g L) c CN h

  sweep-length : length (sweep g L) ≡ CN
  unfolding sweep
  sweep-length = length-table CN (low g L)

  inside : (c : ℕ) → Black g c → c < CN
  inside c k = omega (arith, long, black_in_lem g c k)

  sweep-low : Low g (sweep g L)
  sweep-low =
      record {
        len = sweep-length;
        own = λ c k. rw (sweep_at c (inside c k), low-black c k) (least-black c k).0;
        small = λ c k. omega (arith, sweep_at c (inside c k), low-black c k, (least-black c k).1, l.small c k);
        other = λ c k. ⊎_elim (λ h. sweep_at c h ∙ low-other c k) (λ h. get_or-eq_default (sweep g L) CN (omega (arith, sweep-length))) (below? c CN);
      }

  sweep_less : (c : ℕ) → get_or (sweep g L) c CN ≤ get_or L c CN
  sweep_less c = ⊎_elim (λ k. omega (arith, sweep_at c (inside c k), low-black c k, (least-black c k).1)) (λ k. omega (arith, sweep-low.other c k, l.other c k)) (black? g c)

  -- where no black cell would go lower, the numbers are right
  pub settled_at : ((c : ℕ) → Black g c → least g L c ≡ get_or L c CN) → Right g L
  settled_at f =
      record {
        len = l.len;
        own = l.own;
        least = λ c d j.
            (closed (λ x. Black g x × (get_or L x CN ≤ d)) (black-first j, l.small d (black-first j))
            (λ x y s n k. let u = (least-black y k).2 x (next_sym n) s.0 in (k, omega (arith, u, f y k, s.1)))
            j).1;
        other = l.other;
      }

  settled : sweep g L ≡ L → Right g L
  settled e = settled_at (λ c k. sym (low-black c k) ∙ sym (sweep_at c (inside c k)) ∙ ap (λ (m : List ℕ). get_or m c CN) e)

-- ---- it settles: the sum of the numbers falls

unfoldable pub total : List ℕ → ℕ
total [] = 0
total (x ∷ xs) = x + total xs

drops : (d : ℕ) (l m : List ℕ) → length l ≡ length m → ((i : ℕ) → get_or l i d ≤ get_or m i d) → (l ≡ m) ⊎ (total l < total m)
unfolding total
drops d [] [] e h = inl refl
drops d [] (y ∷ m) e h = absurd (omega arith)
drops d (x ∷ l) [] e h = absurd (omega arith)
drops d (x ∷ l) (y ∷ m) e h = go (same? x y) (drops d l m (omega arith) (λ i. h (suc i)))
  where
    le : x ≤ y
    le = h 0

    go : (x ≡ y) ⊎ (x ≡ y → ⊥) → (l ≡ m) ⊎ (total l < total m) → (x ∷ l ≡ y ∷ m) ⊎ (x + total l < y + total m)
    go (inl p) (inl q) = inl (ap₂ ◌∷◌ p q)
    go (inl p) (inr q) = inr (omega (arith, le))
    go (inr p) (inl q) = let z : total l ≡ total m = ap total q in inr (omega (arith, below_of p))
      where
        below_of : (x ≡ y → ⊥) → x < y
        below_of n = ⊎_elim (λ h. h) (λ h. absurd (n (omega (arith, le)))) (below? x y)
    go (inr p) (inr q) = inr (omega (arith, le))

owns_at : (g : List ℕ) (c : ℕ) → c < CN → get_or (owns g) c CN ≡ cond (black_at g c) c CN
unfolding owns
owns_at g c h = get_or-table_lem CN (λ c. cond (black_at g c) c CN) c CN h

owns-length : (g : List ℕ) → length (owns g) ≡ CN
unfolding owns
owns-length g = length-table CN (λ c. cond (black_at g c) c CN)

owns-black : (g : List ℕ) (c : ℕ) → c < CN → Black g c → get_or (owns g) c CN ≡ c
owns-black g c h k = owns_at g c h ∙ rw (eq-eqb (cell_at g c) CB_BLACK k)

pub owns-low : (g : List ℕ) → length g ≡ CN → Low g (owns g)
owns-low g long =
    record {
      len = owns-length g;
      own = λ c k. rw (owns-black g c (omega (arith, black_in_lem g c k)) k) (here k);
      small = λ c k. omega (arith, owns-black g c (omega (arith, black_in_lem g c k)) k);
      other = λ c k. ⊎_elim (λ h. owns_at g c h ∙ rw (ne_eqb (cell_at g c) CB_BLACK k)) (λ h. get_or-eq_default (owns g) CN (omega (arith, owns-length g))) (below? c CN);
    }

settle : (g : List ℕ) → length g ≡ CN → (n : ℕ) (L : List ℕ) → Low g L → total L ≤ n → (M : List ℕ) × Right g M
settle g long zero L l h = ⊎_elim (λ e. (L, settled long l e)) (λ w. absurd (omega arith)) (drops CN (sweep g L) L (sweep-length long l ∙ sym l.len) (sweep_less long l))
settle g long (suc n) L l h =
    ⊎_elim (λ e. (L, settled long l e)) (λ w. settle g long n (sweep g L) (sweep-low long l) (omega arith))
    (drops CN (sweep g L) L (sweep-length long l ∙ sym l.len) (sweep_less long l))

pub right_exists : (g : List ℕ) → length g ≡ CN → (L : List ℕ) × Right g L
right_exists g long = settle g long (total (owns g)) (owns g) (owns-low g long) (omega arith)

-- The one right labelling of a grid. Its type is all there is to believe: a grid of CN cells has just one (`right_unique`).
pub labels : (g : List ℕ) → (L : List ℕ) × (length g ≡ CN → Right g L)
labels g = ⊎_elim (λ e. let x = right_exists g e in (x.0, λ _. x.1)) (λ n. ([], λ e. absurd (n e))) (same? (length g) CN)
