-- Laws of a scan: from turn to turn what will be told is the same. Assumes nothing.
use Rattle.std.specs.Prelude.{Option}
use mathlib.Core.Bool.{Bool, true, false, cond}
use mathlib.Core.List.{List, ◌∷◌}
use mathlib.Core.Path.{◌≡◌, refl, sym, ap, subst, ◌∙◌}
use Prim.Native.Nat.{ℕ, suc, ◌+◌, ◌≤◌, ◌<◌}
use native.Mathlib.Omega.{arith}
use lib.Dec.{eqb, eqb→eq, T}
use lib.ListN.{length, get_or, drop}
use borrow.Author.Tests.{ne_eqb}
use Rattle.laws.specs.Lists.{bit, count}
use Rattle.laws.proofs.Lists.{drop-one, drop_end}
use Rattle.found.specs.First.{At, first_from}
use Rattle.found.specs.CodeTally.{counted, told_of, to_tell}
use Rattle.found.specs.declared.Found.{Found}
use Rattle.found.specs.declared.Tally.{Tally}

no_more : (n : ℕ) → n + 0 ≡ n
no_more n = omega arith

-- by whether it passes, and whether one did before
more : {A : Type 0} (test : A → Bool) (l : List A) (n f : ℕ) (b z : Bool) → eqb n 0 ≡ z → let c = count test l in
    cond (eqb (n + bit b) 0) (first_from test (f + bit (eqb (n + bit b) 0)) l) (At (f + bit (eqb (n + bit b) 0)) (n + bit b + c))
    ≡ cond z (cond b (At f (cond b (suc c) c)) (first_from test (f + 1) l)) (At f (n + cond b (suc c) c))
more test l n f true true e = let q : n ≡ 0 = eqb→eq n 0 (subst T (sym e) tt) in rw (ne_eqb (n + 1) 0 (λ h. omega arith), no_more f) (ap (At f) (omega arith))
more test l n f true false e = rw (ne_eqb (n + 1) 0 (λ h. omega arith), no_more f) (ap (At f) (omega arith))
more test l n f false true e = rw (no_more n, e)
more test l n f false false e = rw (no_more n, e, no_more f)

module _ {A : Type 0} (test : A → Bool) where
  -- one more is looked at
  tally-more : (t : Tally) (a : A) (l : List A) → to_tell test (counted t (test a)) l ≡ to_tell test t (a ∷ l)
  tally-more t a l = more test l t.number t.first (test a) (eqb t.number 0) refl

  -- a turn of a loop over a list
  pub tally_turn : (l : List A) (t : Tally) (i : ℕ) (d : A) {R : Option Found} → i < length l
      → to_tell test t (drop i l) ≡ R → to_tell test (counted t (test (get_or l i d))) (drop (i + 1) l) ≡ R
  tally_turn l t i d h q = tally-more t (get_or l i d) (drop (i + 1) l) ∙ (rw (drop-one l i d h) at q)

  -- its end
  pub tally_end : (l : List A) (t : Tally) (i : ℕ) {R : Option Found} → length l ≡ i → to_tell test t (drop i l) ≡ R → told_of t ≡ R
  tally_end l t i h q = rw (drop_end l i h, no_more t.number) at q

-- neither number is above how many were looked at
flag_small : (b : Bool) → bit b ≤ 1
flag_small true = omega arith
flag_small false = omega arith

abbrev pub Within : Tally → ℕ → Type 0
Within t i = (t.first ≤ i) × (t.number ≤ i)

pub tally-room : (t : Tally) (i : ℕ) (b : Bool) → Within t i → Within (counted t b) (i + 1)
tally-room t i b h = (omega (arith, h.0, flag_small (eqb (t.number + bit b) 0)), omega (arith, h.1, flag_small b))
