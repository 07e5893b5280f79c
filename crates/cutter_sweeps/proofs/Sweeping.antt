-- A turn of the loop over the cells, and of the loop over the sweeps. Assumes nothing.
use mathlib.Core.Path.{◌≡◌, refl, sym, ap, subst, ◌∙◌}
use mathlib.Core.Bool.{Bool, true, false, not, cond}
use mathlib.Core.List.{List, [], ◌∷◌, zip_with}
use Prim.Native.Nat.{ℕ, zero, suc, ◌+◌, ◌-◌, ◌≤◌, ◌<◌}
use native.Mathlib.Nat.{not-suc-le-zero, le_of_suc-le-suc}
use native.Mathlib.Omega.{arith}
use borrow.Author.Tests.{eq-eqb, ne_eqb}
use lib.Dec.{eqb}
use lib.ListN.{length, get_or, set, length-set}
use lib.Seq.{get_or-set_other}
use Rattle.laws.specs.Lists.{across}
use Rattle.laws.proofs.Folds.{across_turn, across_end}
use Rattle.cutter_ground.specs.Cells.{CN}
use Rattle.cutter_joined.specs.Joined.{Black}
use Rattle.cutter_joined.proofs.Labels.{total}
use Rattle.cutter_sweeps.specs.Sweeps.{owns, low, lowered, sweep, Sweeps, begun, again, Settled}
use Rattle.cutter_sweeps.specs.Trainer.{changes}
use Rattle.cutter_sweeps.specs.CodeTable.{Numbers, Swept, Reached}
use Rattle.cutter_sweeps.proofs.Low.{sweeps-low, low_le, lowered_in, lowered-same, total_set}

changes-none : (l : List ℕ) → changes l l ≡ 0
unfolding changes zip_with
changes-none [] = refl
changes-none (x ∷ xs) = rw (eq-eqb x x refl) (changes-none xs)

one_more : (b : Bool) (p q : ℕ) → p ≡ q + 1 → cond b (suc p) p ≡ cond b (suc q) q + 1
one_more true p q e = omega arith
one_more false p q e = e

-- one cell more gets another number
changes-set : (l m : List ℕ) (i v d : ℕ) → i < length m → get_or m i d ≡ get_or l i d → length l ≡ length m → (get_or l i d ≡ v → ⊥) → changes l (set m i v) ≡ changes l m + 1
unfolding changes zip_with
changes-set l [] i v d h e q n = absurd (not-suc-le-zero h)
changes-set [] (y ∷ m) i v d h e q n = absurd (omega arith)
changes-set (x ∷ l) (y ∷ m) zero v d h e q n = rw (ne_eqb x v n, eq-eqb x y (sym e)) (omega arith)
changes-set (x ∷ l) (y ∷ m) (suc i) v d h e q n = one_more (not (eqb x y)) _ _ (changes-set l m i v d (le_of_suc-le-suc h) e (omega arith) n)

-- before the cell i: L₀ at the start of the sweep, L now, n cells changed
pub record Sweeping (g L₀ L : List ℕ) (n i : ℕ) : Type 0 where
  pub from : length L₀ ≡ CN
  pub len : length L ≡ CN
  pub few : n ≤ i
  pub left : across (lowered g) (CN - i) i L ≡ sweep g L₀
  pub ahead : (c : ℕ) → i ≤ c → get_or L c CN ≡ get_or L₀ c CN
  pub many : n ≡ changes L₀ L
  pub same : n ≡ 0 → L ≡ L₀
  pub falls : total L + n ≤ total L₀

pub sweeping_start : {g L : List ℕ} → Numbers g L → Sweeping g L L 0 0
unfolding sweep
sweeping_start {g} {L} n =
    record {
      from = n.len;
      len = n.len;
      few = omega arith;
      left = refl;
      ahead = λ c h. refl;
      many = sym (changes-none L);
      same = λ e. refl;
      falls = omega arith;
    }

module _ {g L₀ L : List ℕ} {n i : ℕ} (s : Sweeping g L₀ L n i) (inn : i < CN) where
  pub sweeping_lower : Black g i → low g L i < get_or L i CN → Sweeping g L₀ (set L i (low g L i)) (n + 1) (i + 1)
  sweeping_lower k h =
      let v = low g L i in
      let a = s.ahead i (omega arith) in
      let t = total_set L i v CN (omega (arith, s.len)) in
      record {
        from = s.from;
        len = length-set L i v ∙ s.len;
        few = omega (arith, s.few);
        left = across_turn (lowered g) CN i L (set L i v) inn (lowered_in g L i k) s.left;
        ahead = λ c l. get_or-set_other L i c v CN (λ e. omega arith) ∙ s.ahead c (omega arith);
        many = ap (λ (m : ℕ). m + 1) s.many ∙ sym (changes-set L₀ L i v CN (omega (arith, s.len)) a (s.from ∙ sym s.len) (λ e. omega arith));
        same = λ e. absurd (omega arith);
        falls = omega (arith, s.falls);
      }

  pub sweeping_kept : (Black g i → get_or L i CN ≤ low g L i) → Sweeping g L₀ L n (i + 1)
  sweeping_kept h =
      record {
        from = s.from;
        len = s.len;
        few = omega (arith, s.few);
        left = across_turn (lowered g) CN i L L inn (lowered-same g L i (λ k. omega (arith, h k, low_le g L i))) s.left;
        ahead = λ c l. s.ahead c (omega arith);
        many = s.many;
        same = s.same;
        falls = s.falls;
      }

pub sweeping_end : {g L₀ L : List ℕ} {n i : ℕ} → Sweeping g L₀ L n i → CN ≤ i → Swept g L₀ L n
sweeping_end {g} {L₀} {L} {n} {i} s h = record { is = across_end (lowered g) CN i L h s.left; len = s.len; many = s.many; same = s.same; falls = s.falls }

-- between two sweeps
pub reached_start : {g L : List ℕ} → length g ≡ CN → L ≡ owns g → Reached g L
reached_start {g} q e = record { cells = q; swept = subst (Sweeps g) (sym e) begun }

pub reached_more : {g L M : List ℕ} {n : ℕ} → Reached g L → Swept g L M n → Reached g M
reached_more {g} r w = record { cells = r.cells; swept = subst (Sweeps g) (sym w.is) (again r.swept) }

pub reached_numbers : {g L : List ℕ} → Reached g L → Numbers g L
reached_numbers r = record { cells = r.cells; len = (sweeps-low r.cells r.swept).len }

pub reached_end : {g L M : List ℕ} {n : ℕ} → Reached g L → Swept g L M n → n ≡ 0 → Settled g M
reached_end {g} r w e = record { reached = (reached_more r w).swept; still = ap (sweep g) (w.same e) ∙ sym w.is }

-- between two sweeps, of which the last changed n cells
pub record Settling (g L : List ℕ) (n : ℕ) : Type 0 where
  pub cells : length g ≡ CN
  pub len : length L ≡ CN
  pub reached : Sweeps g L
  pub still : n ≡ 0 → sweep g L ≡ L

pub settling_start : {g L : List ℕ} → length g ≡ CN → L ≡ owns g → Settling g L 1
settling_start q e =
    let r = reached_start q e in
    record { cells = q; len = (reached_numbers r).len; reached = r.swept; still = λ z. absurd (omega arith) }

pub settling_more : {g L M : List ℕ} {n m : ℕ} → Settling g L n → Swept g L M m → Settling g M m
settling_more {g} {L} s w =
    let r : Reached g L = record { cells = s.cells; swept = s.reached } in
    record { cells = s.cells; len = w.len; reached = (reached_more r w).swept; still = λ e. (reached_end r w e).still }
