use mathlib.Core.Path.{◌≡◌}
use Prim.Native.Nat.{◌*◌}
use Rattle.cutter_render.specs.CodeDraw.{grounded}
use Rattle.cutter_render.proofs.draw_ground.Given as goal

abbrev pub invariant-loop-p : goal.invariant-loop-p
invariant-loop-p l = l.frame ≡ grounded l.grid (l.p * 128) l.initial.frame
