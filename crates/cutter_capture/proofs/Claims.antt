-- Claiming cell by cell: a turn of the loop. Assumes nothing.
use mathlib.Core.Path.{◌≡◌, refl, sym, ap, ◌∙◌}
use mathlib.Core.List.{List, zip_with}
use Prim.Native.Nat.{ℕ, ◌+◌, ◌≤◌, ◌<◌}
use native.Mathlib.Omega.{arith}
use lib.ListN.{length, get_or, set, take, length-set}
use lib.Seq.{get_or-set_other}
use Rattle.laws.proofs.Lists.{fill_more, fill_end}
use Rattle.laws.proofs.Zip.{length-zip_with_lem, get_or-zip_with_lem}
use Rattle.cutter_ground.specs.Cells.{CN}
use Rattle.cutter_capture.specs.CodeSteps.{shut}

-- the first i cells are done
pub record Claiming (g N h : List ℕ) (i : ℕ) : Type 0 where
  pub order : i ≤ CN
  pub len : length h ≡ CN
  pub past : take i h ≡ take i (zip_with shut g N)
  pub rest : (c : ℕ) → i ≤ c → get_or h c 0 ≡ get_or g c 0

module _ (g N : List ℕ) (lg : length g ≡ CN) (ln : length N ≡ CN) where
  long : length (zip_with shut g N) ≡ CN
  long = length-zip_with_lem shut g N (lg ∙ sym ln) ∙ lg

  pub claiming_start : Claiming g N g 0
  claiming_start = record { order = omega arith; len = lg; past = refl; rest = λ c h. refl }

  pub claiming_turn : {h : List ℕ} {i v : ℕ} → Claiming g N h i → i < CN → v ≡ shut (get_or h i 0) (get_or N i 0) → Claiming g N (set h i v) (i + 1)
  claiming_turn {h} {i} {v} c l e =
      record {
        order = omega arith;
        len = length-set h i v ∙ c.len;
        past = fill_more h (zip_with shut g N) i v 0 (omega (arith, c.len)) (omega (arith, long)) c.past
            (e ∙ ap (λ (x : ℕ). shut x (get_or N i 0)) (c.rest i (omega arith)) ∙ sym (get_or-zip_with_lem shut g N i 0 0 0 (omega arith) (omega arith)));
        rest = λ k m. get_or-set_other h i k v 0 (λ z. omega arith) ∙ c.rest k (omega arith);
      }

  pub claiming_end : {h : List ℕ} {i : ℕ} → Claiming g N h i → CN ≤ i → h ≡ zip_with shut g N
  claiming_end {h} {i} c l = let e : i ≡ CN = omega (arith, c.order) in fill_end h (zip_with shut g N) CN c.len long (rw e at c.past)
