-- One byte of a run. Assumes nothing.
use mathlib.Core.Bool.{Bool}
use mathlib.Core.List.{List}
use mathlib.Core.Path.{◌≡◌, subst, sym}
use Prim.Native.Nat.{ℕ, ◌+◌, ◌*◌, ◌<◌, ◌≤◌}
use native.Mathlib.Omega.{arith}
use lib.ListN.{length, drop, get_or}
use Rattle.text.specs.Text.{NUMBERS, LINE, line_of}
use Rattle.text.specs.CodePuts.{Puts}
use Rattle.text.proofs.Lines.{length-line}
use Rattle.lines.specs.declared.playing.Said.{Said}
use Rattle.lines.specs.Runs.{next, step, game_after, line, lines_after}
use Rattle.lines.proofs.Runs.{after_more, lines_more}

module _ {S : Type 0} (byte : S → ℕ → Said S) (start : S) (numbers : S → List ℕ) (parted : Bool) (bytes : List ℕ) (i : ℕ) (s : S)
    (r : Said S) (e : r ≡ next byte start parted s (get_or bytes i 0)) where
  pub played-more : i < length bytes → {R : S} → game_after byte start parted s (drop i bytes) ≡ R → game_after byte start parted r.game (drop (i + 1) bytes) ≡ R
  played-more h {R} p = subst (λ (z : Said S). game_after byte start parted z.game (drop (i + 1) bytes) ≡ R) (sym e) (after_more (step byte start parted) bytes i s h p)

  module _ (ns : List ℕ) (d : ns ≡ numbers r.game) {at mid : ℕ} {l m : List ℕ} (p : Puts (line_of r.says ns) at l mid m) where
    pub told_more : i < length bytes → {end : ℕ} {k : List ℕ} → Puts (lines_after byte start numbers parted r.game (drop (i + 1) bytes)) mid m end k
        → Puts (lines_after byte start numbers parted s (drop i bytes)) at l end k
    told_more h {end} {k} q =
        lines_more (step byte start parted) (line byte start numbers parted) bytes i s h
        (subst (λ (z : Said S). Puts (line_of z.says (numbers z.game)) at l mid m) e (subst (λ (z : List ℕ). Puts (line_of r.says z) at l mid m) d p))
        (subst (λ (z : Said S). Puts (lines_after byte start numbers parted z.game (drop (i + 1) bytes)) mid m end k) e q)

    pub room-more : length ns ≡ NUMBERS → at ≤ i * LINE → mid ≤ (i + 1) * LINE
    room-more z h = omega (arith, p.ends, length-line r.says ns z)
