use mathlib.Core.Path.{◌≡◌}
use lib.ListN.{take}
use Rattle.frame.specs.CodeDraw.{inked}
use Rattle.mine_picture.specs.Picture.{window}
use Rattle.mine_render.specs.CodeDraw.{enemies_lit}
use Rattle.mine_render.proofs.draw_enemies.Given as goal

abbrev pub invariant-loop-e : goal.invariant-loop-e
invariant-loop-e l = l.frame ≡ inked l.initial.frame (window l.view.x l.view.y (enemies_lit (take l.e-index l.enemies)))
