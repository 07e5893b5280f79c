-- Laws of regions, and that a grid has one right labelling at most. Assumes nothing.
use mathlib.Core.Path.{◌≡◌, sym, subst, ◌∙◌}
use mathlib.Core.List.{List}
use mathlib.Core.Logic.{◌⊎◌, ⊎_elim}
use Prim.Native.Nat.{ℕ, ◌≤◌, ◌<◌}
use native.Mathlib.Nat.{le_antisymm}
use native.Mathlib.Omega.{arith}
use lib.ListN.{length, get_or, get_or-eq_default}
use lib.Seq.{ext_get_or}
use Rattle.laws.proofs.Choice.{below?, same?}
use Rattle.cutter_ground.specs.Cells.{CN, CB_BLACK, CB_FILLED, cell_at}
use Rattle.cutter_joined.specs.Joined.{Black, Next, left, right, up, down, Joined, here, step, Right}

pub black_in_lem : (g : List ℕ) (c : ℕ) → Black g c → c < length g
black_in_lem g c b = ⊎_elim (λ h. h) (λ h. let z : CB_FILLED ≡ CB_BLACK = sym (get_or-eq_default g CB_FILLED h) ∙ b in absurd (omega arith)) (below? c (length g))

pub black? : (g : List ℕ) (c : ℕ) → Black g c ⊎ (Black g c → ⊥)
black? g c = same? (cell_at g c) CB_BLACK

pub next_sym : {a b : ℕ} → Next a b → Next b a
next_sym (left h e) = right (omega arith) (omega arith)
next_sym (right h e) = left (omega arith) (omega arith)
next_sym (up e) = down (omega arith)
next_sym (down e) = up (omega arith)

module _ {g : List ℕ} where
  pub black_last : {a b : ℕ} → Joined g a b → Black g b
  black_last (here k) = k
  black_last (step j n k) = k

  pub black-first : {a b : ℕ} → Joined g a b → Black g a
  black-first (here k) = k
  black-first (step j n k) = black-first j

  pub front : {a b c : ℕ} → Black g a → Next a b → Joined g b c → Joined g a c
  front k n (here k') = step (here k) n k'
  front k n (step j m k') = step (front k n j) m k'

  pub joined_sym : {a b : ℕ} → Joined g a b → Joined g b a
  joined_sym (here k) = here k
  joined_sym (step j n k) = front k (next_sym n) (joined_sym j)

  pub joined_trans : {a b c : ℕ} → Joined g a b → Joined g b c → Joined g a c
  joined_trans i (here k) = i
  joined_trans i (step j n k) = step (joined_trans i j) n k

  -- a set that holds a, and each black neighbour of what it holds, holds the whole region of a
  pub closed : (S : ℕ → Type 0) {a b : ℕ} → S a → ((c d : ℕ) → S c → Next c d → Black g d → S d) → Joined g a b → S b
  closed S s h (here k) = s
  closed S s h (step {b = b} {c = c} j n k) = h b c (closed S s h j) n k

module _ {g L : List ℕ} (R : Right g L) where
  pub right_le : (c : ℕ) → Black g c → get_or L c CN ≤ c
  right_le c k = R.least c c (here k)

  pub right-same : (c d : ℕ) → Joined g c d → get_or L c CN ≡ get_or L d CN
  right-same c d j =
      le_antisymm (R.least c (get_or L d CN) (joined_trans (R.own d (black_last j)) (joined_sym j)))
      (R.least d (get_or L c CN) (joined_trans (R.own c (black-first j)) j))

  pub right_root : (c : ℕ) → Black g c → get_or L (get_or L c CN) CN ≡ get_or L c CN
  right_root c k = right-same (get_or L c CN) c (R.own c k)

  pub right-joined : (c d : ℕ) → Black g c → Black g d → get_or L c CN ≡ get_or L d CN → Joined g c d
  right-joined c d k k' e = joined_trans (joined_sym (R.own c k)) (subst (λ (r : ℕ). Joined g r d) (sym e) (R.own d k'))

  -- a cell whose label is below CN is black
  pub right-black : (c : ℕ) → get_or L c CN < CN → Black g c
  right-black c h = ⊎_elim (λ k. k) (λ k. absurd (omega (arith, R.other c k))) (black? g c)

-- there is one right labelling at most
pub right_unique : {g L M : List ℕ} → Right g L → Right g M → L ≡ M
right_unique {g} {L} {M} R S =
    ext_get_or CN L M (R.len ∙ sym S.len) (λ c h.
    ⊎_elim (λ k. le_antisymm (R.least c _ (S.own c k)) (S.least c _ (R.own c k))) (λ n. R.other c n ∙ sym (S.other c n)) (black? g c))
