use mathlib.Core.Path.{◌≡◌}
use Rattle.frame.specs.Frame.{pack, pixel}
use Rattle.frame.proofs.Draw.{parts}
use Rattle.mine_picture.specs.Picture.{window}
use Rattle.mine_render.specs.CodeDraw.{tile_lit}
use Rattle.mine_render.proofs.Stamp.{tile_no}
use Rattle.mine_render.proofs.draw_tiles.Given as goal

abbrev pub invariant-loop-k : goal.invariant-loop-k
invariant-loop-k l = l.frame ≡ pack (parts (pixel l.initial.frame) (window l.view.x l.view.y (tile_lit l.grid l.fn.is_open)) tile_no l.k)
