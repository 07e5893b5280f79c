-- Spellings: as numbers, and only one is the first. Assumes nothing.
use mathlib.Core.Bool.{true}
use mathlib.Core.List.{List}
use mathlib.Core.Logic.{◌⊎◌, inl, inr, ⊎_elim}
use mathlib.Core.Path.{◌≡◌, refl, sym, ap, ap₂, subst, ◌∙◌}
use Prim.Native.Nat.{ℕ, zero, suc, ◌+◌, ◌*◌, ◌≤◌, ◌<◌}
use native.Mathlib.Omega.{arith}
use Rattle.laws.proofs.Choice.{below?}
use Rattle.cutter_border.specs.Walks.{claimed_cell, Beside, Way, Left, Right, Up, Down, order, onward, Spelling, still, more, steps, Earlier, differ, before, Walk, here, step}
use Rattle.cutter_border.specs.Nearest.{First, Unreached, Nearest, goes, stays}
use Rattle.cutter_border.specs.Taken.{NoLater}

-- what holds of the four steps holds of each
pub each : (P : Way → Type 0) → P Left → P Right → P Up → P Down → (w : Way) → P w
each P l r u d Left = l
each P l r u d Right = r
each P l r u d Up = u
each P l r u d Down = d

-- left comes first, and down last
pub order-ends : (w : Way) → (order Left ≤ order w) × (order w ≤ order Down)
order-ends Left = (omega arith, omega arith)
order-ends Right = (omega arith, omega arith)
order-ends Up = (omega arith, omega arith)
order-ends Down = (omega arith, omega arith)

-- ---- a spelling as a number: fewer steps, or as many and earlier, is less

abbrev pub value : Spelling → ℕ
value still = 0
value (more p w) = 4 * value p + order w

pub shorter_less : (p q : Spelling) → steps p < steps q → value p < value q
shorter_less p still h = absurd (omega arith)
shorter_less still (more q w) h = omega (arith, order-ends w)
shorter_less (more p v) (more q w) h = let i = shorter_less p q (omega arith) in omega (arith, order-ends v, order-ends w)

pub earlier_less : {p q : Spelling} → Earlier p q → value p < value q
earlier_less (differ l) = omega arith
earlier_less (before {v = v} {w = w} e) = let i = earlier_less e in omega (arith, order-ends v, order-ends w)

-- ---- the first is the only one

abbrev way_of : ℕ → Way
way_of zero = Left
way_of (suc zero) = Left
way_of (suc (suc zero)) = Right
way_of (suc (suc (suc zero))) = Up
way_of (suc (suc (suc (suc n)))) = Down

of_order : (w : Way) → way_of (order w) ≡ w
of_order = each (λ w. way_of (order w) ≡ w) refl refl refl refl

-- of two spellings with as many steps one is earlier, or they are the same
abbrev Compared : Spelling → Spelling → Type 0
Compared p q = Earlier p q ⊎ ((p ≡ q) ⊎ Earlier q p)

compare_last : (p q : Spelling) (v w : Way) → p ≡ q → Compared (more p v) (more q w)
compare_last p q v w z =
    ⊎_elim (λ l. inl (subst (λ (x : Spelling). Earlier (more p v) (more x w)) z (differ l)))
    (λ h. ⊎_elim (λ l. inr (inr (subst (λ (x : Spelling). Earlier (more x w) (more p v)) z (differ l))))
    (λ l. let e : order v ≡ order w = omega arith in inr (inl (ap₂ more z (sym (of_order v) ∙ ap way_of e ∙ of_order w))))
    (below? (order w) (order v)))
    (below? (order v) (order w))

compare : (p q : Spelling) → steps p ≡ steps q → Compared p q
compare still still e = inr (inl refl)
compare still (more q w) e = absurd (omega arith)
compare (more p v) still e = absurd (omega arith)
compare (more p v) (more q w) e =
    ⊎_elim (λ l. inl (before l)) (⊎_elim (compare_last p q v w) (λ l. inr (inr (before l)))) (compare p q (omega arith))

-- a value is one spelling's
pub value_same : (p q : Spelling) → value p ≡ value q → p ≡ q
value_same p q e =
    ⊎_elim (λ l. absurd (omega (arith, shorter_less p q l)))
    (λ l. ⊎_elim (λ m. absurd (omega (arith, shorter_less q p m)))
    (λ m. ⊎_elim (λ x. absurd (omega (arith, earlier_less x))) (⊎_elim (λ z. z) (λ x. absurd (omega (arith, earlier_less x)))) (compare p q (omega arith)))
    (below? (steps q) (steps p)))
    (below? (steps p) (steps q))

-- no later is a value of at most the other's
pub no_later : (q p : Spelling) → value q ≤ value p → NoLater q p
no_later q p h =
    ⊎_elim inl (λ l. inr (⊎_elim (λ m. absurd (omega (arith, shorter_less p q m))) (λ m. omega arith) (below? (steps p) (steps q)), λ x. omega (arith, earlier_less x)))
    (below? (steps q) (steps p))

pub later_value : (q p : Spelling) → NoLater q p → value q ≤ value p
later_value q p (inl h) = omega (arith, shorter_less q p h)
later_value q p (inr h) =
    ⊎_elim (λ x. omega (arith, earlier_less x)) (⊎_elim (λ z. omega (arith, ap value z)) (λ x. absurd (h.1 x))) (compare q p h.0)

-- where the steps lead
abbrev pub end_of : ℕ → Spelling → ℕ
end_of a still = a
end_of a (more p w) = onward w (end_of a p)

module _ {g : List ℕ} {a : ℕ} where
  pub walk_end : {p : Spelling} {b : ℕ} → Walk g a p b → b ≡ end_of a p
  walk_end here = refl
  walk_end (step w r k) = ap (onward w) (walk_end r)

  -- the first is spelt in one way
  pub first_spelt : {p q : Spelling} {b c : ℕ} → First g a p b → First g a q c → p ≡ q
  first_spelt {p} {q} {b} {c} f h =
      let e : steps p ≡ steps q = omega (arith, f.shortest q c h.walk h.beside, h.shortest p b f.walk f.beside) in
      ⊎_elim (λ l. absurd (h.earliest p b f.walk f.beside l)) (⊎_elim (λ z. z) (λ l. absurd (f.earliest q c h.walk h.beside l))) (compare p q e)

  first_unique : {p q : Spelling} {b c : ℕ} → First g a p b → First g a q c → b ≡ c
  first_unique f h = walk_end f.walk ∙ ap (end_of a) (first_spelt f h) ∙ sym (walk_end h.walk)

  -- there is only one such place
  pub nearest_unique : {b c : ℕ} → Nearest g a b → Nearest g a c → b ≡ c
  nearest_unique (goes p f) (goes q h) = first_unique f h
  nearest_unique {b} (goes p f) (stays u e) = absurd (u p b f.walk f.beside)
  nearest_unique {b} {c} (stays u e) (goes q h) = absurd (u q c h.walk h.beside)
  nearest_unique (stays u e) (stays v z) = e ∙ sym z

  -- a start beside black is that place, by the empty walk
  pub nearest-here : Beside g a → Nearest g a a
  nearest-here e =
      goes still (record { walk = here; beside = e; shortest = λ q c r b. omega arith; earliest = λ q c r b x. omega (arith, earlier_less x) })

  pub nearest-already : {b : ℕ} → Beside g a → Nearest g a b → b ≡ a
  nearest-already e n = nearest_unique n (nearest-here e)

  pub nearest-unreached : {b : ℕ} → Unreached g a → Nearest g a b → b ≡ a
  nearest-unreached u n = nearest_unique n (stays u refl)

  pub walk-claimed : claimed_cell g a ≡ true → {p : Spelling} {b : ℕ} → Walk g a p b → claimed_cell g b ≡ true
  walk-claimed s here = s
  walk-claimed s (step w r k) = k

  -- from a claimed cell it is claimed
  pub nearest-claimed : claimed_cell g a ≡ true → {b : ℕ} → Nearest g a b → claimed_cell g b ≡ true
  nearest-claimed s (goes p f) = walk-claimed s f.walk
  nearest-claimed s (stays u e) = ap (claimed_cell g) e ∙ s
