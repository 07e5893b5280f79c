use mathlib.Core.Path.{◌≡◌}
use mathlib.Core.List.{List}
use Prim.Native.Nat.{ℕ, ◌+◌, ◌*◌}
use lib.ListN.{length}
use Rattle.cutter_render.specs.CodeDraw.{grounded}
use Rattle.cutter_render.proofs.ground_page.Given as goal

abbrev pub invariant-loop-cx : goal.invariant-loop-cx
invariant-loop-cx l =
    (old : List ℕ) → length old ≡ 1024 → l.initial.frame ≡ grounded l.grid (l.p * 128) old → l.frame ≡ grounded l.grid (l.p * 128 + 2 * l.cx) old
