use mathlib.Core.Path.{◌≡◌}
use Prim.Native.Nat.{◌%◌}
use Rattle.frame.specs.Frame.{pack, pixel}
use Rattle.frame.proofs.Draw.{parts}
use Rattle.mine_render.specs.CodeDraw.{stamp_lit}
use Rattle.mine_render.proofs.blit.Given as goal

abbrev pub invariant-loop-gx : goal.invariant-loop-gx
invariant-loop-gx l = l.frame ≡ pack (parts (pixel l.initial.frame) (stamp_lit l.col l.row l.fn.cols) (λ x y. x % 8) l.gx)
