-- Keeping the creatures of one mark, in order: a turn of the loop. Assumes nothing.
use mathlib.Core.Path.{◌≡◌, refl, sym, ap, subst, ◌∙◌}
use mathlib.Core.Bool.{Bool}
use mathlib.Core.List.{List, [], ◌∷◌, ◌++◌}
use Prim.Native.Nat.{ℕ, suc, ◌+◌, ◌-◌, ◌≤◌, ◌<◌}
use native.Mathlib.Omega.{arith}
use borrow.Author.Tests.{eq-eqb, ne_eqb, ltb-true}
use lib.Dec.{eqb}
use lib.ListN.{length, get_or, set, take, replicate, length-append}
use lib.Seq.{set-append_seam, append_snoc, length-take-le}
use Rattle.laws.specs.Lists.{filter}
use Rattle.laws.proofs.Counts.{count_le}
use Rattle.laws.proofs.Lists.{all_at, get_or_default}
use Rattle.laws.proofs.Filter.{filter-hit, filter-miss, length-filter}
use Rattle.cutter_ground.specs.Cells.{CN}
use Rattle.cutter_ground.specs.declared.Mover.{Mover}
use Rattle.cutter_capture.specs.CodeSteps.{Placed, inside, mark_of}
use Rattle.cutter_ground.specs.Movers.{MAX_ENEMIES, place_of, blank_slot, slots}

-- one more creature takes the first free slot
slots-more : (k : List Mover) (m : Mover) → length k < MAX_ENEMIES → set (slots k) (length k) m ≡ slots (k ++ m ∷ [])
slots-more k m h =
    let l = length-append k (m ∷ []) in
    let e : MAX_ENEMIES - length k ≡ suc (MAX_ENEMIES - length (k ++ m ∷ [])) = omega arith in
    ap (λ (n : ℕ). set (k ++ replicate n blank_slot) (length k) m) e ∙ set-append_seam k blank_slot (replicate (MAX_ENEMIES - length (k ++ m ∷ [])) blank_slot) m
    ∙ sym (append_snoc k m (replicate (MAX_ENEMIES - length (k ++ m ∷ [])) blank_slot))

-- those of the first i creatures that have the mark w
abbrev those : List ℕ → ℕ → List Mover → List Mover
those N w es = filter (λ m. eqb (mark_of N m) w) es

pub record Keeping (N : List ℕ) (w : ℕ) (cs out : List Mover) (n i : ℕ) : Type 0 where
  pub outs : out ≡ slots (filter (λ m. eqb (mark_of N m) w) (take i cs))
  pub size : n ≡ length (filter (λ m. eqb (mark_of N m) w) (take i cs))

pub keeping_start : (N : List ℕ) (w : ℕ) (cs : List Mover) → Keeping N w cs (replicate MAX_ENEMIES blank_slot) 0 0
keeping_start N w cs = record { outs = refl; size = refl }

module _ {N : List ℕ} {w : ℕ} {cs out : List Mover} {n i : ℕ} (k : Keeping N w cs out n i) (d : Mover) (inn : i < length cs) (l : length cs ≤ MAX_ENEMIES) where
  pub keeping_room : n < MAX_ENEMIES
  keeping_room =
      let f : Mover → Bool = λ m. eqb (mark_of N m) w in
      omega (arith, k.size, length-filter f (take i cs), count_le f (take i cs), length-take-le i cs (omega arith))

  pub keeping_hit : mark_of N (get_or cs i d) ≡ w → Keeping N w cs (set out n (get_or cs i d)) (n + 1) (i + 1)
  keeping_hit e =
      let passes = eq-eqb (mark_of N (get_or cs i d)) w e in
      let y : those N w (take (i + 1) cs) ≡ those N w (take i cs) ++ get_or cs i d ∷ [] = filter-hit (λ m. eqb (mark_of N m) w) cs i d inn passes in
      let room = keeping_room in
      let short : length (those N w (take i cs)) < MAX_ENEMIES = omega (arith, k.size) in
      record {
        outs = rw (k.outs, k.size) (slots-more (those N w (take i cs)) (get_or cs i d) short ∙ sym (ap slots y));
        size = (let a = ap length y in let b = length-append (those N w (take i cs)) (get_or cs i d ∷ []) in omega (arith, k.size));
      }

  pub keeping_miss : (mark_of N (get_or cs i d) ≡ w → ⊥) → Keeping N w cs out n (i + 1)
  keeping_miss e =
      let y : those N w (take (i + 1) cs) ≡ those N w (take i cs) = filter-miss (λ m. eqb (mark_of N m) w) cs i d inn (ne_eqb (mark_of N (get_or cs i d)) w e) in
      record { outs = k.outs ∙ sym (ap slots y); size = k.size ∙ sym (ap length y) }

-- each creature of the list is on the grid
pub placed_at : {es : List Mover} → Placed es → (k : ℕ) (d : Mover) → k < length es → place_of (get_or es k d) < CN
placed_at {es} p k d h =
    subst (λ (m : Mover). place_of m < CN) (get_or_default es k blank_slot d h) (ltb-true (place_of (get_or es k blank_slot)) CN (all_at inside es k blank_slot p.on_grid refl))
