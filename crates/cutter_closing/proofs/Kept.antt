-- The kept region is over or beside every counted one, and over each that begins earlier. Assumes nothing.
use mathlib.Core.Path.{◌≡◌, refl, sym, subst}
use mathlib.Core.Bool.{true, false, ◌&&◌, ◌||◌}
use mathlib.Core.List.{List, [], ◌∷◌}
use mathlib.Core.Logic.{◌⊎◌, inl, inr, ⊎_elim}
use Prim.Native.Nat.{ℕ, zero, suc, ◌≤◌, ◌<◌}
use native.Mathlib.Omega.{arith}
use borrow.Author.Tests.{eq-eqb, ne_eqb, lt-ltb, le-ltb}
use lib.Dec.{eqb, ltb}
use lib.ListN.{take}
use Rattle.laws.proofs.Choice.{below?, same?}
use Rattle.cutter_ground.specs.declared.Mover.{Mover}
use Rattle.cutter_closing.specs.Counted.{roots_from, counted, cells_in}
use Rattle.cutter_closing.proofs.Roots.{roots_none, roots_root, roots_pass}
use Rattle.cutter_closing.specs.Closing.{creatures_in, best, kept_of}
use Rattle.cutter_closing.specs.Kept.{Above, In, Over, Keeps, Kept}

abbrev Under : (e k e' k' : ℕ) → Type 0
Under e k e' k' = (e < e') ⊎ ((e ≡ e') × (k ≤ k'))

order : (e k e' k' : ℕ) → (((ltb e' e || eqb e e' && ltb k' k) ≡ true) × Above e k e' k') ⊎ (((ltb e' e || eqb e e' && ltb k' k) ≡ false) × Under e k e' k')
order e k e' k' =
    ⊎_elim (λ h. inl (rw (lt-ltb e' e h), inl h))
    (λ h. ⊎_elim
    (λ s. ⊎_elim (λ l. inl (rw (le-ltb e' e h, eq-eqb e e' s) (lt-ltb k' k l), inr (s, l)))
    (λ l. inr (rw (le-ltb e' e h, eq-eqb e e' s) (le-ltb k' k l), inr (s, l))) (below? k' k))
    (λ n. inr (rw (le-ltb e' e h, ne_eqb e e' n), inl (⊎_elim (λ l. l) (λ l. absurd (n (omega arith))) (below? e e')))) (same? e e'))
    (below? e' e)

never : (e k e' k' : ℕ) → Above e k e' k' → Under e k e' k' → ⊥
never e k e' k' (inl a) (inl b) = omega arith
never e k e' k' (inl a) (inr b) = let z = b.0 in omega arith
never e k e' k' (inr a) (inl b) = let z = a.0 in omega arith
never e k e' k' (inr a) (inr b) = let z = a.1 in let y = b.1 in omega arith

-- r is under w and w is under x: r is under x
under_then : (a b c d e f : ℕ) → Under a b c d → Under c d e f → Under a b e f
under_then a b c d e f (inl p) (inl q) = inl (omega arith)
under_then a b c d e f (inl p) (inr q) = let z = q.0 in inl (omega arith)
under_then a b c d e f (inr p) (inl q) = let z = p.0 in inl (omega arith)
under_then a b c d e f (inr p) (inr q) = let z = p.0 in let y = q.0 in let x = p.1 in let w = q.1 in inr (omega arith, omega arith)

above_under : (e k e' k' : ℕ) → Above e k e' k' → Under e' k' e k
above_under e k e' k' (inl a) = inl a
above_under e k e' k' (inr a) = let z = a.0 in let y = a.1 in inr (omega arith, omega arith)

-- r under w and x above w: x above r
above_over : (a b c d e f : ℕ) → Under a b c d → Above e f c d → Above e f a b
above_over a b c d e f (inl p) (inl q) = inl (omega arith)
above_over a b c d e f (inl p) (inr q) = let z = q.0 in inl (omega arith)
above_over a b c d e f (inr p) (inl q) = let z = p.0 in inl (omega arith)
above_over a b c d e f (inr p) (inr q) = let z = p.0 in let y = q.0 in let x = p.1 in let w = q.1 in inr (omega arith, omega arith)

self : (e k : ℕ) → Under e k e k
self e k = inr (refl, omega arith)

abbrev pub Rising : ℕ → List ℕ → Type 0
Rising c [] = Unit {0}
Rising c (x ∷ xs) = (c ≤ x) × Rising (suc x) xs

module _ (L : List ℕ) (es : List Mover) where
  abbrev Below : ℕ → ℕ → Type 0
  Below a b = Under (creatures_in L es a) (cells_in L a) (creatures_in L es b) (cells_in L b)

  record Leads (S : ℕ → Type 0) (w : ℕ) : Type 0 where
    one : S w
    most : (r : ℕ) → S r → Below r w
    first : (r : ℕ) → S r → r < w → Over L es w r

  leads : (S : ℕ → Type 0) (w c : ℕ) (rs : List ℕ) → Leads S w → ((r : ℕ) → S r → r < c) → Rising c rs → Leads (λ r. S r ⊎ In r rs) (best L es w rs)
  unfolding best
  leads S w c [] l b a = record { one = inl l.one; most = λ r s. ⊎_elim (l.most r) (λ n. absurd n) s; first = λ r s. ⊎_elim (l.first r) (λ n. absurd n) s }
  leads S w c (x ∷ rs) l b a =
      ⊎_elim
      (λ t. rw t.0 (pass x (leads (λ r. S r ⊎ (r ≡ x)) x (suc x) rs (record {
        one = inr refl;
        most = λ r s. ⊎_elim (λ p. under_then _ _ _ _ _ _ (l.most r p) (above_under _ _ _ _ t.1)) (λ p. subst (λ (y : ℕ). Below y x) (sym p) (self _ _)) s;
        first = λ r s h. ⊎_elim (λ p. above_over _ _ _ _ _ _ (l.most r p) t.1) (λ p. absurd (omega arith)) s;
      }) within a.1)))
      (λ t. rw t.0 (pass w (leads (λ r. S r ⊎ (r ≡ x)) w (suc x) rs (record {
        one = inl l.one;
        most = λ r s. ⊎_elim (l.most r) (λ p. subst (λ (y : ℕ). Below y w) (sym p) t.1) s;
        first = λ r s h. ⊎_elim (λ p. l.first r p h) (λ p. let z = b w l.one in let y = a.0 in absurd (omega arith)) s;
      }) within a.1)))
      (order (creatures_in L es x) (cells_in L x) (creatures_in L es w) (cells_in L w))
    where
      within : (r : ℕ) → S r ⊎ (r ≡ x) → r < suc x
      within r s = ⊎_elim (λ p. let z = b r p in let y = a.0 in omega arith) (λ p. omega arith) s

      pass : (v : ℕ) → Leads (λ r. (S r ⊎ (r ≡ x)) ⊎ In r rs) (best L es v rs) → Leads (λ r. S r ⊎ In r (x ∷ rs)) (best L es v rs)
      pass v j =
          record {
            one = ⊎_elim (λ p. ⊎_elim (λ q. inl q) (λ q. inr (inl q)) p) (λ p. inr (inr p)) j.one;
            most = λ r s. j.most r (⊎_elim (λ p. inl (inl p)) (λ p. ⊎_elim (λ q. inl (inr q)) (λ q. inr q) p) s);
            first = λ r s. j.first r (⊎_elim (λ p. inl (inl p)) (λ p. ⊎_elim (λ q. inl (inr q)) (λ q. inr q) p) s);
          }

  alone : (r : ℕ) → Leads (λ x. x ≡ r) r
  alone r = record { one = refl; most = λ x p. subst (λ (y : ℕ). Below y r) (sym p) (self _ _); first = λ x p h. absurd (omega arith) }

  keeps_of : (c r : ℕ) (rs : List ℕ) → Rising c (r ∷ rs) → Keeps L es (r ∷ rs) (kept_of L es (r ∷ rs))
  keeps_of c r rs a =
      let j = leads (λ x. x ≡ r) r (suc r) rs (alone r) (λ x p. omega arith) a.1 in
      record { one = j.one; most = λ x s o. never _ _ _ _ o (j.most x s); earliest = j.first }

rising_weaken : (c d : ℕ) (l : List ℕ) → c ≤ d → Rising d l → Rising c l
rising_weaken c d [] h a = tt
rising_weaken c d (x ∷ xs) h a = (let z = a.0 in omega arith, a.1)

pub roots_rising : (limit c : ℕ) (ls : List ℕ) → Rising c (take limit (roots_from c ls))
roots_rising zero c ls = tt
roots_rising (suc m) c [] = rw (roots_none c) tt
roots_rising (suc m) c (l ∷ ls) =
    ⊎_elim (λ e. rw (roots_root c l ls e) (omega arith, roots_rising m (suc c) ls))
    (λ e. rw (roots_pass c l ls e) (rising_weaken c (suc c) (take (suc m) (roots_from (suc c) ls)) (omega arith) (roots_rising (suc m) (suc c) ls))) (same? l c)

-- of a list with a region in it
keeps_in : (L : List ℕ) (es : List Mover) (rs : List ℕ) → Rising 0 rs → (r : ℕ) → In r rs → Keeps L es rs (kept_of L es rs)
keeps_in L es [] a r i = absurd i
keeps_in L es (x ∷ rs) a r i = keeps_of L es 0 x rs a

only_one : (L : List ℕ) (es : List Mover) (rs : List ℕ) (w w' : ℕ) → Keeps L es rs w → Keeps L es rs w' → w ≡ w'
only_one L es rs w w' k k' =
    ⊎_elim (λ h. absurd (k.most w' k'.one (k'.earliest w k.one h)))
    (λ h. ⊎_elim (λ h'. absurd (k'.most w k.one (k.earliest w' k'.one h'))) (λ h'. omega arith) (below? w' w)) (below? w w')

pub kept-is : Kept
kept-is = record { keeps = λ limit L es. keeps_in L es (counted limit L) (roots_rising limit 0 L); only = only_one }
