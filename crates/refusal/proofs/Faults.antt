-- The first fault over a list: where there is none, which one it is, and a turn of a loop that looks for it. Assumes nothing.
use mathlib.Core.Bool.{Bool, true, false, ◌&&◌, and_assoc, and-true, and-false, true≢false}
use mathlib.Core.List.{List, [], ◌∷◌}
use mathlib.Core.Logic.{⊎_elim}
use mathlib.Core.Path.{◌≡◌, refl, sym, ap, ap₂, ◌∙◌, subst}
use Prim.Native.Nat.{ℕ, zero, suc, ◌+◌, ◌<◌, ◌≤◌}
use native.Mathlib.Nat.{le_of_suc-le-suc, not-suc-le-zero, zero-add}
use native.Mathlib.Omega.{arith}
use lib.Dec.{leb, eqb}
use lib.ListN.{length, get_or, take, drop, length-take, length-drop}
use borrow.Author.Tests.{eqb-true, leb-true, eq-eqb, le-leb, lt-leb}
use lib.Seq.{get_or-take, get_or-drop, take-take, take-add, drop_at, length-take-le}
use Rattle.laws.specs.Lists.{all}
use Rattle.laws.proofs.Choice.{bool_cases, and_left, and_right}
use Rattle.refusal.specs.Refusal.{Checked, number_given, NONE, TOO_MANY, SPARE_SLOT, clear, unless, ◌then◌}
use Rattle.refusal.specs.Faults.{first_fault, spare_fault, room_for, fault_in}
use Rattle.refusal.proofs.Checks.{clear-unless, clear_then, clear_of, unclear, then_given, unless_given}

-- ---- over a list

module _ {A : Type 0} (fault : ℕ → A → Checked) where
  -- A loop that looks for the first: over the elements from i on it is R.
  module _ (l : List A) (i : ℕ) {R : Checked} (e : first_fault fault i (drop i l) ≡ R) where
    pub fault_end : drop i l ≡ [] → NONE ≡ R
    unfolding first_fault
    fault_end h = rw h at e

    -- where the element at i has the fault r
    module _ {a : A} (h : drop i l ≡ a ∷ drop (i + 1) l) {r : Checked} (q : r ≡ fault i a) where
      pub fault_more : number_given r ≡ 0 → first_fault fault (i + 1) (drop (i + 1) l) ≡ R
      unfolding first_fault
      fault_more z = rw (h, sym q, clear_of r z) at e

      pub fault_found : (number_given r ≡ 0 → ⊥) → r ≡ R
      unfolding first_fault
      fault_found z = rw (h, sym q, unclear r z) at e

  -- there is none among k + 1 elements where there is none among k, and none at the next
  pub clear-more : (l : List A) (i k : ℕ) (d : A) → k < length l
      → clear (first_fault fault i (take (suc k) l)) ≡ (clear (first_fault fault i (take k l)) && clear (fault (i + k) (get_or l k d)))
  unfolding first_fault
  clear-more [] i k d h = absurd (not-suc-le-zero h)
  clear-more (a ∷ l) i zero d h =
      let q : i ≡ i + 0 = omega arith in
      clear_then (fault i a) NONE ∙ and-true (clear (fault i a)) ∙ ap (λ (n : ℕ). clear (fault n a)) q
  clear-more (a ∷ l) i (suc k) d h =
      let q : i + 1 + k ≡ i + suc k = omega arith in
      rw (
        clear_then (fault i a) (first_fault fault (i + 1) (take (suc k) l)),
        clear_then (fault i a) (first_fault fault (i + 1) (take k l)),
        clear-more l (i + 1) k d (le_of_suc-le-suc h),
        q,
      ) (sym (and_assoc (clear (fault i a)) (clear (first_fault fault (i + 1) (take k l))) (clear (fault (i + suc k) (get_or l k d)))))

  -- there is none where each element passes a test that tells its own fault
  pub clear-each : (ok : A → Bool) → ((i : ℕ) (a : A) → clear (fault i a) ≡ ok a) → (i : ℕ) (l : List A) → clear (first_fault fault i l) ≡ all ok l
  unfolding first_fault
  clear-each ok f i [] = refl
  clear-each ok f i (a ∷ l) = clear_then (fault i a) (first_fault fault (i + 1) l) ∙ ap₂ ◌&&◌ (f i a) (clear-each ok f (i + 1) l)

  -- the first is that of the element k, and there is none before it
  pub record First (l : List A) (i : ℕ) (d : A) : Type 0 where
    pub k : ℕ
    pub within : k < length l
    pub before : clear (first_fault fault i (take k l)) ≡ true
    pub here : clear (fault (i + k) (get_or l k d)) ≡ false
    pub is : first_fault fault i l ≡ fault (i + k) (get_or l k d)

  first-here : (a : A) (l : List A) (i : ℕ) (d : A) → clear (fault i a) ≡ false → First (a ∷ l) i d
  unfolding first_fault
  first-here a l i d c =
      let q : i ≡ i + 0 = omega arith in
      record {
        k = 0;
        within = omega arith;
        before = refl;
        here = subst (λ (n : ℕ). clear (fault n a) ≡ false) q c;
        is = rw c (ap (λ (n : ℕ). fault n a) q);
      }

  first_later : (a : A) (l : List A) (i : ℕ) (d : A) → clear (fault i a) ≡ true → First l (i + 1) d → First (a ∷ l) i d
  unfolding first_fault
  first_later a l i d c f =
      let q : i + 1 + f.k ≡ i + suc f.k = omega arith in
      record {
        k = suc f.k;
        within = omega (arith, f.within);
        before = rw c f.before;
        here = subst (λ (n : ℕ). clear (fault n (get_or l f.k d)) ≡ false) q f.here;
        is = rw c (f.is ∙ ap (λ (n : ℕ). fault n (get_or l f.k d)) q);
      }

  pub first_found : (l : List A) (i : ℕ) (d : A) → clear (first_fault fault i l) ≡ false → First l i d
  unfolding first_fault
  first_found [] i d e = absurd (true≢false e)
  first_found (a ∷ l) i d e =
      ⊎_elim (λ c. first_later a l i d c (first_found l (i + 1) d (rw c at e)))
      (first-here a l i d) (bool_cases (clear (fault i a)))

-- ---- over the slots

module _ {A : Type 0} (blank : A → Bool) where
  -- slots without a fault are blank, and only those
  pub clear-spare : (i : ℕ) (l : List A) → clear (first_fault (spare_fault blank) i l) ≡ all blank l
  clear-spare = clear-each (spare_fault blank) blank (λ i a. clear-unless (blank a) (SPARE_SLOT i) refl)

  -- A loop that looks for the first of them.
  module _ (l : List A) (i : ℕ) {R : Checked} (e : first_fault (spare_fault blank) i (drop i l) ≡ R) {a : A} (h : drop i l ≡ a ∷ drop (i + 1) l) where
    pub spare_more : blank a ≡ true → first_fault (spare_fault blank) (i + 1) (drop (i + 1) l) ≡ R
    unfolding first_fault
    spare_more b = rw (h, b) at e

    pub spare_found : blank a ≡ false → SPARE_SLOT i ≡ R
    unfolding first_fault
    spare_found b = rw (h, b) at e

module _ {A : Type 0} (most : ℕ) (fault : ℕ → A → Checked) (blank : A → Bool) (slots : List A) (n : ℕ) where
  -- what there is room for
  abbrev Fits : Type 0
  Fits = (length slots ≡ most) × (n ≤ most)

  room_fits : room_for most slots n ≡ true → Fits
  room_fits q = (eqb-true (length slots) most (and_left (eqb (length slots) most) (leb n most) q), leb-true n most (and_right (eqb (length slots) most) (leb n most) q))

  -- there is no fault where there is room, each creature is right, and the slots past them are blank
  pub clear_in : (right : Bool) → (n ≤ length slots → clear (first_fault fault 0 (take n slots)) ≡ right)
      → clear (fault_in most fault blank slots n) ≡ (room_for most slots n && right && all blank (drop n slots))
  unfolding fault_in
  clear_in right f =
      let few = unless (room_for most slots n) TOO_MANY in
      let each = first_fault fault 0 (take n slots) in
      clear_then (few then each) (first_fault (spare_fault blank) n (drop n slots))
      ∙ ap₂ ◌&&◌
      (clear_then few each ∙ ap (λ (b : Bool). b && clear each) (clear-unless (room_for most slots n) TOO_MANY refl) ∙ go (room_for most slots n) refl)
      (clear-spare blank n (drop n slots))
    where
      go : (b : Bool) → room_for most slots n ≡ b → (b && clear (first_fault fault 0 (take n slots))) ≡ (b && right)
      go true q = let h = room_fits q in f (omega (arith, h.0, h.1))
      go false q = refl

  -- Code that looks for it in that order: where it stops.
  pub in_many : most < n → TOO_MANY ≡ fault_in most fault blank slots n
  unfolding fault_in
  in_many h = rw (lt-leb n most h, and-false)

  module _ (full : length slots ≡ most) (few : n ≤ most) {r : Checked} (e : r ≡ first_fault fault 0 (take n slots)) where
    pub in_creature : (number_given r ≡ 0 → ⊥) → r ≡ fault_in most fault blank slots n
    unfolding fault_in
    in_creature z = rw (eq-eqb (length slots) most full, le-leb n most few, sym e, unclear r z)

    pub in_slot : number_given r ≡ 0 → {s : Checked} → s ≡ first_fault (spare_fault blank) n (drop n slots) → s ≡ fault_in most fault blank slots n
    unfolding fault_in
    in_slot z q = rw (eq-eqb (length slots) most full, le-leb n most few, sym e, clear_of r z) q

  -- what holds of each fault of the slots, where it is the first, holds of the one that is given
  module _ (P : Checked → Type 0) (d : A)
      (many : room_for most slots n ≡ false → P TOO_MANY)
      (one : Fits → (i : ℕ) → i < n → clear (first_fault fault 0 (take i slots)) ≡ true → clear (fault i (get_or slots i d)) ≡ false → P (fault i (get_or slots i d)))
      (spare : Fits → clear (first_fault fault 0 (take n slots)) ≡ true → (i : ℕ) → n ≤ i → i < most
      → all blank (drop n (take i slots)) ≡ true → blank (get_or slots i d) ≡ false → P (SPARE_SLOT i)) where
    room_given : clear (unless (room_for most slots n) TOO_MANY) ≡ true → Fits
    room_given c = room_fits (sym (clear-unless (room_for most slots n) TOO_MANY refl) ∙ c)

    creature_given : Fits → clear (first_fault fault 0 (take n slots)) ≡ false → P (first_fault fault 0 (take n slots))
    creature_given h e =
        let f = first_found fault (take n slots) 0 d e in
        let k = f.k in
        let w : k < n = omega (arith, simp length-take at f.within) in
        let here : fault (0 + k) (get_or (take n slots) k d) ≡ fault k (get_or slots k d) = rw (zero-add k, get_or-take n slots k d w) in
        subst P (sym (f.is ∙ here)) (one h k w (rw (take-take k n slots (omega arith)) at f.before) (ap clear (sym here) ∙ f.here))

    spare_given : Fits → clear (first_fault fault 0 (take n slots)) ≡ true → clear (first_fault (spare_fault blank) n (drop n slots)) ≡ false
        → P (first_fault (spare_fault blank) n (drop n slots))
    spare_given h c e =
        let f = first_found (spare_fault blank) (drop n slots) n d e in
        let i = n + f.k in
        let here = get_or-drop n slots f.k d in
        let bad : blank (get_or slots i d) ≡ false =
        ap blank (sym here)
        ∙ sym (clear-unless (blank (get_or (drop n slots) f.k d)) (SPARE_SLOT i) refl)
        ∙ f.here in
        let past : drop n (take i slots) ≡ take f.k (drop n slots) =
        rw (take-add n f.k slots)
        (drop_at (take n slots) (take f.k (drop n slots)) n (length-take-le n slots (omega (arith, h.0, h.1)))) in
        let is : first_fault (spare_fault blank) n (drop n slots) ≡ SPARE_SLOT i = f.is ∙ rw (here, bad) in
        subst P (sym is)
        (spare h c i (omega arith) (omega (arith, h.0, simp length-drop at f.within))
        (ap (all blank) past ∙ sym (clear-spare blank n (take f.k (drop n slots))) ∙ f.before) bad)

    pub told : clear (fault_in most fault blank slots n) ≡ false → P (fault_in most fault blank slots n)
    unfolding fault_in
    told e =
        let few = unless (room_for most slots n) TOO_MANY in
        let each = first_fault fault 0 (take n slots) in
        then_given P (few then each) (first_fault (spare_fault blank) n (drop n slots))
        (then_given P few each (λ c. unless_given P (room_for most slots n) TOO_MANY many c) (λ c. creature_given (room_given c)))
        (λ c.
        let both = sym (clear_then few each) ∙ c in
        spare_given (room_given (and_left (clear few) (clear each) both)) (and_right (clear few) (clear each) both))
        e
