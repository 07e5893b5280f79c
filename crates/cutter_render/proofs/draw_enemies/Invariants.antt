use mathlib.Core.Path.{◌≡◌}
use lib.ListN.{take}
use Rattle.laws.specs.Lists.{any}
use Rattle.frame.specs.CodeDraw.{inked}
use Rattle.cutter_picture.specs.Picture.{mover_lit}
use Rattle.cutter_render.proofs.draw_enemies.Given as goal

abbrev pub invariant-loop-e : goal.invariant-loop-e
invariant-loop-e l = l.frame ≡ inked l.initial.frame (λ x y. any (mover_lit x y) (take l.e-index l.enemies))
