-- The numbers left: a turn of the loop, from the last cell to the first. Assumes nothing.
use mathlib.Core.Path.{◌≡◌, refl, sym, ap, ap₂, subst, ◌∙◌}
use mathlib.Core.Bool.{Bool, true, false, ◌||◌}
use mathlib.Core.List.{List, [], ◌∷◌}
use mathlib.Core.Logic.{⊎_elim}
use Prim.Native.Nat.{ℕ, ◌+◌, ◌≤◌, ◌<◌}
use native.Mathlib.Omega.{arith}
use borrow.Author.Tests.{eq-eqb, ne_eqb, eqb-true}
use lib.Dec.{eqb}
use lib.ListN.{length, get_or, set, drop, replicate, length-set, length-replicate}
use lib.Seq.{get_or-set_same, get_or-set_other}
use Rattle.laws.specs.Lists.{any}
use Rattle.laws.proofs.Choice.{same?}
use Rattle.laws.proofs.Lists.{drop-one, drop_end, get_or_default, get_or_replicate_same_lem}
use Rattle.cutter_ground.specs.Cells.{CN, CB_BLACK, CB_FILLED}
use Rattle.cutter_sweeps.specs.Trainer.{black_numbers, kinds}
use Rattle.cutter_sweeps.specs.CodeTable.{Reached}
use Rattle.cutter_sweeps.proofs.Low.{sweeps-low}

-- the numbers on black cells from i on
abbrev rest : List ℕ → List ℕ → ℕ → List ℕ
rest g L i = black_numbers (drop i g) (drop i L)

-- before the cell i, from the end: n different numbers stand behind it, and these are marked
pub record Telling (g L : List ℕ) (met : List Bool) (n i : ℕ) : Type 0 where
  pub cells : length g ≡ CN
  pub nums : length L ≡ CN
  pub len : length met ≡ CN
  pub few : n + i ≤ CN
  pub marks : (v : ℕ) → get_or met v false ≡ any (eqb v) (rest g L i)
  pub many : n ≡ kinds (rest g L i)

rest_end : (g L : List ℕ) → length g ≡ CN → rest g L CN ≡ black_numbers [] (drop CN L)
rest_end g L q = ap (λ (x : List ℕ). black_numbers x (drop CN L)) (drop_end g CN q)

pub telling_start : {g L : List ℕ} → length g ≡ CN → length L ≡ CN → Telling g L (replicate CN false) 0 CN
unfolding black_numbers kinds
telling_start {g} {L} q l =
    record {
      cells = q;
      nums = l;
      len = length-replicate {A = Bool} CN false;
      few = omega arith;
      marks = λ v. rw (rest_end g L q) (get_or_replicate_same_lem CN v false);
      many = rw (rest_end g L q);
    }

or_known : (b c : Bool) → (b ≡ true → c ≡ true) → (b || c) ≡ c
or_known true c h = sym (h refl)
or_known false c h = refl

module _ (i : ℕ) {g L : List ℕ} {met : List Bool} {n : ℕ} (t : Telling g L met n (i + 1)) where
  inn : i < CN
  inn = omega (arith, t.few)

  one : rest g L i ≡ black_numbers (get_or g i 0 ∷ drop (i + 1) g) (get_or L i 0 ∷ drop (i + 1) L)
  one = ap₂ black_numbers (drop-one g i 0 (omega (arith, inn, t.cells))) (drop-one L i 0 (omega (arith, inn, t.nums)))

  pub telling_pass : (get_or g i 0 ≡ CB_BLACK → ⊥) → Telling g L met n i
  unfolding black_numbers
  telling_pass k =
      let e : rest g L i ≡ rest g L (i + 1) = one ∙ rw (ne_eqb (get_or g i 0) CB_BLACK k) in
      record {
        cells = t.cells;
        nums = t.nums;
        len = t.len;
        few = omega (arith, t.few);
        marks = λ v. t.marks v ∙ ap (any (eqb v)) (sym e);
        many = t.many ∙ ap kinds (sym e);
      }

  module _ (k : get_or g i 0 ≡ CB_BLACK) where
    next : rest g L i ≡ get_or L i 0 ∷ rest g L (i + 1)
    unfolding black_numbers
    next = one ∙ rw (eq-eqb (get_or g i 0) CB_BLACK k)

    -- the number stands behind as well
    pub telling_again : get_or met (get_or L i 0) false ≡ true → Telling g L met n i
    unfolding kinds
    telling_again m =
        let v = get_or L i 0 in
        let a : any (eqb v) (rest g L (i + 1)) ≡ true = sym (t.marks v) ∙ m in
        record {
          cells = t.cells;
          nums = t.nums;
          len = t.len;
          few = omega (arith, t.few);
          marks = λ w.
              t.marks w
              ∙ sym (or_known (eqb w v) (any (eqb w) (rest g L (i + 1))) (λ e. subst (λ (x : ℕ). any (eqb x) (rest g L (i + 1)) ≡ true) (sym (eqb-true w v e)) a))
              ∙ ap (any (eqb w)) (sym next);
          many = t.many ∙ sym (ap kinds next ∙ rw a);
        }

    pub telling_new : get_or L i 0 < CN → get_or met (get_or L i 0) false ≡ false → Telling g L (set met (get_or L i 0) true) (n + 1) i
    unfolding kinds
    telling_new h m =
        let v = get_or L i 0 in
        let a : any (eqb v) (rest g L (i + 1)) ≡ false = sym (t.marks v) ∙ m in
        let mark : ℕ → Bool → Bool = λ w b. b || any (eqb w) (rest g L (i + 1)) in
        record {
          cells = t.cells;
          nums = t.nums;
          len = length-set met v true ∙ t.len;
          few = omega (arith, t.few);
          marks = λ w. (⊎_elim
              (λ (e : w ≡ v). ap (λ (x : ℕ). get_or (set met v true) x false) e ∙ get_or-set_same met v true false (omega (arith, h, t.len)) ∙ ap (mark w) (sym (eq-eqb w v e)))
              (λ (d : w ≡ v → ⊥). get_or-set_other met v w true false d ∙ t.marks w ∙ ap (mark w) (sym (ne_eqb w v d)))
              (same? w v))
              ∙ ap (any (eqb w)) (sym next);
          many = sym (ap kinds next ∙ rw a (omega (arith, t.many)));
        }

-- a black cell's number is below CN
pub reached-below : {g L : List ℕ} → Reached g L → (c : ℕ) → c < CN → get_or g c 0 ≡ CB_BLACK → get_or L c 0 < CN
reached-below {g} {L} r c h k =
    let l = sweeps-low r.cells r.swept in
    omega (arith, h, l.small c (get_or_default g c CB_FILLED 0 (omega (arith, r.cells)) ∙ k), get_or_default L c 0 CN (omega (arith, l.len)))
