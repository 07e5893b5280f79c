-- Marking a part of the queue: a turn of the loop. Assumes nothing.
use mathlib.Core.Path.{◌≡◌, refl, sym, ap, ◌∙◌}
use mathlib.Core.List.{List}
use mathlib.Core.Logic.{⊎_elim}
use Prim.Native.Nat.{ℕ, ◌+◌, ◌<◌}
use native.Mathlib.Omega.{arith}
use lib.ListN.{length, get_or, set, length-set}
use lib.Seq.{get_or-set_other}
use Rattle.laws.proofs.Choice.{below?}
use Rattle.cutter_ground.specs.Cells.{CN}
use Rattle.cutter_regions.specs.CodeSeeking.{Queued}
use Rattle.cutter_regions.proofs.Seeking.{put}
use Rattle.cutter_capture.specs.CodeSteps.{KEPT}
use Rattle.cutter_capture.specs.CodeChoosing.{Marked}

pub marked_start : (seen q : List ℕ) (a : ℕ) → length seen ≡ CN → Marked seen q a (a + 0) seen
marked_start seen q a l = record { len = l; hit = λ c o. let h = o.1 in let k = o.2 in absurd (omega arith); miss = λ c f. refl }

-- v is the cell at the place a + i of the queue
pub marked_turn : {seen₀ q : List ℕ} {a : ℕ} (i : ℕ) {seen : List ℕ} {v : ℕ} → Marked seen₀ q a (a + i) seen → v ≡ get_or q (a + i) 0 → v < CN
    → Marked seen₀ q a (a + (i + 1)) (set seen v KEPT)
marked_turn {seen₀} {q} {a} i {seen} {v} m y l =
    record {
      len = length-set seen v KEPT ∙ m.len;
      hit = λ c o. ⊎_elim (λ w. w.1) (λ w. w.1 ∙ m.hit c (o.0, o.1, before c o w.0, o.3)) (put seen v KEPT c (omega (arith, m.len)));
      miss = λ c f. get_or-set_other seen v c KEPT 0 (λ e. f (a + i, omega arith, omega arith, sym y ∙ sym e)) ∙ m.miss c (λ o. f (o.0, o.1, let z = o.2 in omega arith, o.3));
    }
  where
    before : (c : ℕ) (o : Queued q a (a + (i + 1)) c) → (c ≡ v → ⊥) → o.0 < a + i
    before c o n = ⊎_elim (λ k. k) (λ k. let z = o.2 in let e : o.0 ≡ a + i = omega arith in absurd (n (sym o.3 ∙ ap (λ (x : ℕ). get_or q x 0) e ∙ sym y))) (below? o.0 (a + i))
