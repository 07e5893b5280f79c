-- The neighbours as functions, and `Next`: a neighbour that is black is one step off, and there are these four. Assumes nothing.
use mathlib.Core.Path.{◌≡◌, refl, subst}
use mathlib.Core.Bool.{Bool, true, false, cond}
use mathlib.Core.List.{List}
use Prim.Native.Nat.{ℕ, ◌+◌, ◌-◌, ◌%◌, ◌<◌, ◌≤◌}
use native.Mathlib.Omega.{arith}
use borrow.Author.Tests.{lt-ltb, le-ltb, ltb-true, ltb-false}
use lib.Dec.{ltb}
use lib.ListN.{length}
use Rattle.cutter_ground.specs.Cells.{CW, CN, left_of, right_of, up_of, down_of}
use Rattle.cutter_joined.specs.Joined.{Black, Next, left, right, up, down}
use Rattle.cutter_joined.proofs.Joined.{black_in_lem}

-- a neighbour that a test picks is a black cell only where the test passes
picked : (g : List ℕ) (a : ℕ) (b : Bool) (P : ℕ → Type 0) → length g ≡ CN → (b ≡ true → P a) → Black g (cond b a CN) → P (cond b a CN)
picked g a true P e h k = h refl
picked g a false P e h k = absurd (omega (arith, black_in_lem g CN k))

picked_not : (g : List ℕ) (a : ℕ) (b : Bool) (P : ℕ → Type 0) → length g ≡ CN → (b ≡ false → P a) → Black g (cond b CN a) → P (cond b CN a)
picked_not g a true P e h k = absurd (omega (arith, black_in_lem g CN k))
picked_not g a false P e h k = h refl

module _ (g : List ℕ) (long : length g ≡ CN) (at : ℕ) where
  pub left-next : Black g (left_of at) → Next at (left_of at)
  left-next = picked g (at - 1) (ltb 0 (at % CW)) (Next at) long (λ e. left (ltb-true _ _ e) (omega (arith, ltb-true 0 (at % CW) e)))

  pub right-next : Black g (right_of at) → Next at (right_of at)
  right-next = picked g (at + 1) (ltb (at % CW) (CW - 1)) (Next at) long (λ e. right (ltb-true _ _ e) refl)

  pub up_next : Black g (up_of at) → Next at (up_of at)
  up_next = picked_not g (at - CW) (ltb at CW) (Next at) long (λ e. up (omega (arith, ltb-false at CW e)))

  pub down-next : Black g (down_of at) → Next at (down_of at)
  down-next = picked g (at + CW) (ltb at (CN - CW)) (Next at) long (λ e. down refl)

  -- a black cell that is one step off is one of the four
  pub one_of : (P : ℕ → Type 0) → P (left_of at) → P (right_of at) → P (up_of at) → P (down_of at) → (d : ℕ) → Next at d → Black g d → P d
  one_of P l r u w d (left h e) k = subst P (simp (lt-ltb 0 (at % CW) h) (omega arith)) l
  one_of P l r u w d (right h e) k = subst P (simp (lt-ltb (at % CW) (CW - 1) h) (omega arith)) r
  one_of P l r u w d (up e) k = let h : CW ≤ at = omega arith in subst P (simp (le-ltb at CW h) (omega arith)) u
  one_of P l r u w d (down e) k = let h : at < CN - CW = omega (arith, black_in_lem g d k) in subst P (simp (lt-ltb at (CN - CW) h) (omega arith)) w
