use mathlib.Core.Path.{◌≡◌}
use mathlib.Core.Bool.{◌&&◌}
use Rattle.frame.specs.Frame.{pack, pixel}
use Rattle.cutter_picture.specs.Picture.{no_life}
use Rattle.cutter_render.proofs.draw_lives.Given as goal

abbrev pub invariant-loop-i : goal.invariant-loop-i
invariant-loop-i l = l.frame ≡ pack (λ x y. pixel l.initial.frame x y && no_life l.i x y)
