-- A test that antt computes over a whole grid, in one walk over lists, and that shows a labelling right. Assumes nothing.
use mathlib.Core.Path.{◌≡◌, refl, sym, ap, subst, ◌∙◌}
use mathlib.Core.Bool.{Bool, true, false, cond, ◌&&◌, ◌||◌, false≢true}
use mathlib.Core.List.{List, [], ◌∷◌, ◌++◌}
use mathlib.Core.Logic.{◌⊎◌, inl, inr, ⊎_elim}
use Prim.Native.Nat.{ℕ, zero, suc, ◌+◌, ◌-◌, ◌%◌, ◌≤◌, ◌<◌}
use native.Mathlib.Nat.{not-suc-le-zero, le_of_suc-le-suc, add-zero, zero-add, add-suc, suc-add}
use native.Mathlib.Omega.{arith}
use borrow.Author.Tests.{eq-eqb, ne_eqb, eqb-true, leb-true, ltb-true}
use lib.Dec.{eqb, leb, ltb}
use lib.ListN.{length, get_or, replicate, get_or-append, get_or-replicate, get_or-eq_default}
use lib.Seq.{get_or-append-add}
use Rattle.laws.proofs.Choice.{below?, and_left, and_right, or_cases}
use Rattle.cutter_ground.specs.Cells.{CW, CN, CB_BLACK, CB_FILLED, cell_at}
use Rattle.cutter_joined.specs.Joined.{Black, Next, left, right, up, down, Joined, here, step, Right}
use Rattle.cutter_joined.proofs.Joined.{black_in_lem, black-first, black?, closed}

-- f at each place of four lists that are walked together
unfoldable pub every4 : (ℕ → ℕ → ℕ → ℕ → ℕ → Bool) → ℕ → List ℕ → List ℕ → List ℕ → List ℕ → Bool
every4 f i [] bs cs ds = true
every4 f i (a ∷ xs) [] cs ds = false
every4 f i (a ∷ xs) (b ∷ bs) [] ds = false
every4 f i (a ∷ xs) (b ∷ bs) (c ∷ cs) [] = false
every4 f i (a ∷ xs) (b ∷ bs) (c ∷ cs) (d ∷ ds) = f i a b c d && every4 f (suc i) xs bs cs ds

every4_from : (f : ℕ → ℕ → ℕ → ℕ → ℕ → Bool) (i : ℕ) (xs bs cs ds : List ℕ) → every4 f i xs bs cs ds ≡ true → (k : ℕ) → k < length xs
    → f (i + k) (get_or xs k CB_FILLED) (get_or bs k CN) (get_or cs k CN) (get_or ds k CN) ≡ true
unfolding every4
every4_from f i [] bs cs ds t k h = absurd (not-suc-le-zero h)
every4_from f i (a ∷ xs) [] cs ds t k h = absurd (false≢true t)
every4_from f i (a ∷ xs) (b ∷ bs) [] ds t k h = absurd (false≢true t)
every4_from f i (a ∷ xs) (b ∷ bs) (c ∷ cs) [] t k h = absurd (false≢true t)
every4_from f i (a ∷ xs) (b ∷ bs) (c ∷ cs) (d ∷ ds) t zero h = subst (λ (m : ℕ). f m a b c d ≡ true) (sym (add-zero i)) (and_left (f i a b c d) (every4 f (suc i) xs bs cs ds) t)
every4_from f i (a ∷ xs) (b ∷ bs) (c ∷ cs) (d ∷ ds) t (suc k) h =
    subst (λ (m : ℕ). f m (get_or xs k CB_FILLED) (get_or bs k CN) (get_or cs k CN) (get_or ds k CN) ≡ true) (suc-add i k ∙ sym (add-suc i k))
    (every4_from f (suc i) xs bs cs ds (and_right (f i a b c d) (every4 f (suc i) xs bs cs ds) t) k (le_of_suc-le-suc h))

-- The cell c holds x and has the label l; its left neighbour's label is w, its upper neighbour's u. A black cell's label is no later than the
-- cell, its black neighbours have the same, and it comes from the cell itself or from one of these two.
abbrev side_ok : ℕ → ℕ → ℕ → Bool
side_ok c l w = eqb (c % CW) 0 || (eqb w CN || eqb w l)

abbrev above_ok : ℕ → ℕ → Bool
above_ok l u = eqb u CN || eqb u l

abbrev from_ok : ℕ → ℕ → ℕ → ℕ → Bool
from_ok c l w u = eqb l c || (ltb 0 (c % CW) && eqb w l || eqb u l)

unfoldable pub cell_ok : ℕ → ℕ → ℕ → ℕ → ℕ → Bool
cell_ok c x l w u = cond (eqb x CB_BLACK) (leb l c && (side_ok c l w && (above_ok l u && from_ok c l w u))) (eqb l CN)

unfoldable pub right_test : List ℕ → List ℕ → Bool
right_test g L = eqb (length L) CN && (eqb (length g) CN && every4 cell_ok 0 g L (CN ∷ L) (replicate CW CN ++ L))

record CellOk (c l w u : ℕ) : Type 0 where
  small : l ≤ c
  side : (c % CW ≡ 0) ⊎ ((w ≡ CN) ⊎ (w ≡ l))
  above : (u ≡ CN) ⊎ (u ≡ l)
  from : (l ≡ c) ⊎ (((0 < c % CW) × (w ≡ l)) ⊎ (u ≡ l))

-- what a test tells of either side
eqb_or : (a b : ℕ) (t : Bool) → (eqb a b || t) ≡ true → (a ≡ b) ⊎ (t ≡ true)
eqb_or a b t h = ⊎_elim (λ e. inl (eqb-true a b e)) (λ e. inr e) (or_cases (eqb a b) t h)

or_map : {A B C : Type 0} → (B → C) → A ⊎ B → A ⊎ C
or_map f (inl a) = inl a
or_map f (inr b) = inr (f b)

cell_ok_lem : (c l w u : ℕ) → (leb l c && (side_ok c l w && (above_ok l u && from_ok c l w u))) ≡ true → CellOk c l w u
cell_ok_lem c l w u t =
    let t₁ = and_right (leb l c) _ t in
    let t₂ = and_right (side_ok c l w) _ t₁ in
    record {
      small = leb-true l c (and_left (leb l c) _ t);
      side = or_map (λ a. or_map (eqb-true w l) (eqb_or w CN (eqb w l) a)) (eqb_or (c % CW) 0 (eqb w CN || eqb w l) (and_left (side_ok c l w) _ t₁));
      above = or_map (eqb-true u l) (eqb_or u CN (eqb u l) (and_left (above_ok l u) _ t₂));
      from = or_map
          (λ a. ⊎_elim (λ b. inl (ltb-true 0 (c % CW) (and_left (ltb 0 (c % CW)) (eqb w l) b), eqb-true w l (and_right (ltb 0 (c % CW)) (eqb w l) b)))
          (λ b. inr (eqb-true u l b)) (or_cases (ltb 0 (c % CW) && eqb w l) (eqb u l) a))
          (eqb_or l c (ltb 0 (c % CW) && eqb w l || eqb u l) (and_right (above_ok l u) _ t₂));
    }

cell-black : (c x l w u : ℕ) → x ≡ CB_BLACK → cell_ok c x l w u ≡ true → CellOk c l w u
unfolding cell_ok
cell-black c x l w u e t = cell_ok_lem c l w u (rw (eq-eqb x CB_BLACK e) at t)

cell_other : (c x l w u : ℕ) → (x ≡ CB_BLACK → ⊥) → cell_ok c x l w u ≡ true → l ≡ CN
unfolding cell_ok
cell_other c x l w u n t = eqb-true l CN (rw (ne_eqb x CB_BLACK n) at t)

module _ (g L : List ℕ) (t : right_test g L ≡ true) where
  len : length L ≡ CN
  unfolding right_test
  len = eqb-true (length L) CN (and_left (eqb (length L) CN) _ t)

  long : length g ≡ CN
  unfolding right_test
  long = eqb-true (length g) CN (and_left (eqb (length g) CN) _ (and_right (eqb (length L) CN) _ t))

  walk : every4 cell_ok 0 g L (CN ∷ L) (replicate CW CN ++ L) ≡ true
  unfolding right_test
  walk = and_right (eqb (length g) CN) _ (and_right (eqb (length L) CN) _ t)

  here_ok : (c : ℕ) → c < CN → cell_ok c (cell_at g c) (get_or L c CN) (get_or (CN ∷ L) c CN) (get_or (replicate CW CN ++ L) c CN) ≡ true
  here_ok c h =
      subst (λ (m : ℕ). cell_ok m (cell_at g c) (get_or L c CN) (get_or (CN ∷ L) c CN) (get_or (replicate CW CN ++ L) c CN) ≡ true) (zero-add c)
      (every4_from cell_ok 0 g L (CN ∷ L) (replicate CW CN ++ L) walk c (omega (arith, long)))

  black_ok : (c : ℕ) → Black g c → CellOk c (get_or L c CN) (get_or (CN ∷ L) c CN) (get_or (replicate CW CN ++ L) c CN)
  black_ok c k = cell-black c (cell_at g c) (get_or L c CN) _ _ k (here_ok c (omega (arith, long, black_in_lem g c k)))

  up_at : (d : ℕ) → get_or (replicate CW CN ++ L) (CW + d) CN ≡ get_or L d CN
  up_at d = get_or-append-add (replicate CW CN) L d CN

  up_none : (c : ℕ) → c < CW → get_or (replicate CW CN ++ L) c CN ≡ CN
  up_none c h = get_or-append (replicate CW CN) L CN c h ∙ get_or-replicate CW c CN CN h

  other : (c : ℕ) → (Black g c → ⊥) → get_or L c CN ≡ CN
  other c n = ⊎_elim (λ h. cell_other c (cell_at g c) (get_or L c CN) _ _ n (here_ok c h)) (λ h. get_or-eq_default L CN (omega (arith, len))) (below? c CN)

  -- a number below CN stands at a black cell
  is-black : (d : ℕ) → get_or L d CN < CN → Black g d
  is-black d h = ⊎_elim (λ k. k) (λ n. absurd (omega (arith, other d n))) (black? g d)

  low_at : (c : ℕ) → Black g c → get_or L c CN < CN
  low_at c k = let o = (black_ok c k).small in omega (arith, long, black_in_lem g c k)

  -- black cells side by side, or one over the other, have the same number
  pair_side : (d c : ℕ) → d + 1 ≡ c → 0 < c % CW → Black g d → Black g c → get_or L d CN ≡ get_or L c CN
  pair_side d c e h kd kc =
      let x : get_or (CN ∷ L) c CN ≡ get_or L d CN = (let e' : c ≡ suc d = omega arith in rw e') in
      ⊎_elim (λ a. absurd (omega arith)) (λ a. ⊎_elim (λ b. absurd (omega (arith, low_at d kd))) (λ b. sym x ∙ b) a) (black_ok c kc).side

  pair_up : (d c : ℕ) → d + CW ≡ c → Black g d → Black g c → get_or L d CN ≡ get_or L c CN
  pair_up d c e kd kc =
      let x : get_or (replicate CW CN ++ L) c CN ≡ get_or L d CN = (let e' : c ≡ CW + d = omega arith in rw e' (up_at d)) in
      ⊎_elim (λ b. absurd (omega (arith, low_at d kd))) (λ b. sym x ∙ b) (black_ok c kc).above

  pair : (a b : ℕ) → Next a b → Black g a → Black g b → get_or L b CN ≡ get_or L a CN
  pair a b (left h e) ka kb = pair_side b a e h kb ka
  pair a b (right h e) ka kb = sym (pair_side a b (omega arith) (omega arith) ka kb)
  pair a b (up e) ka kb = pair_up b a e kb ka
  pair a b (down e) ka kb = sym (pair_up a b (omega arith) ka kb)

  by_left : (c : ℕ) (k : Black g c) → ((d : ℕ) → d < c → Black g d → Joined g (get_or L d CN) d) → (0 < c % CW) × (get_or (CN ∷ L) c CN ≡ get_or L c CN) → Joined g (get_or L c CN) c
  by_left c k ih b =
      let p = b.0 in
      let e : c ≡ suc (c - 1) = omega arith in
      let x : get_or L (c - 1) CN ≡ get_or L c CN = ap (λ (m : ℕ). get_or (CN ∷ L) m CN) (sym e) ∙ b.1 in
      let kd = is-black (c - 1) (omega (arith, low_at c k)) in
      subst (λ (r : ℕ). Joined g r c) x (step (ih (c - 1) (omega arith) kd) (right (omega arith) (omega arith)) k)

  by_up : (c : ℕ) (k : Black g c) → ((d : ℕ) → d < c → Black g d → Joined g (get_or L d CN) d) → get_or (replicate CW CN ++ L) c CN ≡ get_or L c CN → Joined g (get_or L c CN) c
  by_up c k ih b =
      let p : CW ≤ c = ⊎_elim (λ h. absurd (omega (arith, up_none c h, low_at c k))) (λ h. h) (below? c CW) in
      let e : c ≡ CW + (c - CW) = omega arith in
      let x : get_or L (c - CW) CN ≡ get_or L c CN = sym (up_at (c - CW)) ∙ ap (λ (m : ℕ). get_or (replicate CW CN ++ L) m CN) (sym e) ∙ b in
      let kd = is-black (c - CW) (omega (arith, low_at c k)) in
      subst (λ (r : ℕ). Joined g r c) x (step (ih (c - CW) (omega arith) kd) (down (omega arith)) k)

  own : (n c : ℕ) → c < n → Black g c → Joined g (get_or L c CN) c
  own zero c h k = absurd (not-suc-le-zero h)
  own (suc n) c h k =
      ⊎_elim (λ e. rw e (here k))
      (λ a. ⊎_elim (by_left c k (λ d l kd. own n d (omega arith) kd)) (by_up c k (λ d l kd. own n d (omega arith) kd)) a)
      (black_ok c k).from

  -- where the test passes, the labelling is right
  pub right_by_test : Right g L
  right_by_test =
      record {
        len = len;
        own = λ c k. own (suc c) c (omega arith) k;
        least = λ c d j.
            (let z = closed (λ x. Black g x × (get_or L x CN ≡ get_or L d CN)) (black-first j, refl) (λ x y s n k. (k, pair x y n s.0 k ∙ s.1)) j in
            omega (arith, z.1, (black_ok d (black-first j)).small));
        other = other;
      }
