-- A creature that goes from the slots of a state: the last takes its place, and leaves a slot of zeros. Assumes nothing.
use mathlib.Core.Bool.{Bool, true, false, ◌&&◌}
use mathlib.Core.List.{List, [], ◌∷◌, ◌++◌}
use mathlib.Core.Logic.{⊎_elim}
use mathlib.Core.Path.{◌≡◌, sym, ◌∙◌, ap}
use Prim.Native.Nat.{ℕ, suc, ◌+◌, ◌-◌, ◌<◌, ◌≤◌}
use native.Mathlib.Omega.{arith}
use lib.ListN.{length, get_or, set, take, drop, length-set}
use lib.Seq.{take-suc, take-set-le, take-set-lt, drop-set-lt, drop-cons, set_out, get_or-set_same, length-take-le}
use Rattle.laws.specs.Lists.{all, any}
use Rattle.laws.proofs.Lists.{all_set, all_append}
use Rattle.laws.proofs.Choice.{and_left, and_right, below?}
use Rattle.found.specs.First.{first}
use Rattle.found.specs.First.{At}
use Rattle.mine_state.specs.declared.Enemy.{Enemy}
use Rattle.mine_state.specs.State.{stands_at, blank_slot}
use Rattle.mine_state.specs.WellFormed.{apart, is_blank}
use Rattle.mine_keeps.proofs.Creatures.{apart-set, apart_last, found_gone}

module _ (l : List Enemy) (n i : ℕ) (h : i < n) (k : n ≤ length l) where
  abbrev last : Enemy
  last = get_or l (n - 1) blank_slot

  -- the creatures but the last
  abbrev front : List Enemy
  front = take (n - 1) l

  abbrev slots : List Enemy
  slots = set (set l i last) (n - 1) blank_slot

  before : take n l ≡ front ++ (last ∷ [])
  before = let e : n ≡ suc (n - 1) = omega arith in ap (λ (j : ℕ). take j l) e ∙ take-suc l (n - 1) blank_slot (omega arith)

  after : take (n - 1) slots ≡ set front i last
  after =
      take-set-le (n - 1) (set l i last) (n - 1) blank_slot (omega arith)
      ∙ ⊎_elim (λ b. take-set-lt (n - 1) l i last b)
      (λ b. take-set-le (n - 1) l i last b ∙ sym (set_out front i last (omega (arith, length-take-le (n - 1) l (omega arith))))) (below? i (n - 1))

  pub gone-all : (f : Enemy → Bool) → all f (take n l) ≡ true → all f (take (n - 1) slots) ≡ true
  gone-all f a =
      let both = sym (all_append f front (last ∷ [])) ∙ ap (all f) (sym before) ∙ a in
      let one = and_left (f last) true (and_right (all f front) (f last && true) both) in
      rw after (all_set f front i last (and_left (all f front) (f last && true) both) one)

  pub gone-apart : apart (take n l) ≡ true → apart (take (n - 1) slots) ≡ true
  gone-apart a =
      let b = apart_last front last (rw before at a) in
      rw after (apart-set front i last b.0 b.1)

  -- nobody is left where it stood
  pub gone-nobody : (x y k : ℕ) → apart (take n l) ≡ true → first (stands_at x y) (take n l) ≡ At i k → any (stands_at x y) (take (n - 1) slots) ≡ false
  gone-nobody x y k a e =
      let z : i ≡ 0 + i = omega arith in
      rw after (found_gone x y 0 i k front last (rw before at a) (ap (first (stands_at x y)) (sym before) ∙ e ∙ ap (λ (j : ℕ). At j k) z))

  pub gone-rest : all is_blank (drop n l) ≡ true → all is_blank (drop (n - 1) slots) ≡ true
  gone-rest a =
      let s : suc (n - 1) ≡ n = omega arith in
      let r : drop (suc (n - 1)) slots ≡ drop n l = ap (λ (j : ℕ). drop j slots) s ∙ drop-set-lt n (set l i last) (n - 1) blank_slot (omega arith) ∙ drop-set-lt n l i last h in
      rw (drop-cons slots (n - 1) blank_slot (simp length-set (omega arith)), get_or-set_same (set l i last) (n - 1) blank_slot blank_slot (simp length-set (omega arith)), r) a
