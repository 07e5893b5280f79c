use mathlib.Core.Path.{◌≡◌, ap, ◌∙◌}
use Prim.Native.Nat.{ℕ}
use native.Mathlib.Omega.{arith}
use Rattle.frame.specs.Frame.{pixel}
use Rattle.frame.proofs.Draw.{framed-pack, parts_all}
use Rattle.mine_picture.specs.Art.{art_of}
use Rattle.mine_picture.specs.Picture.{window}
use Rattle.mine_render.specs.CodeDraw.{columns_of, tile_lit}
use Rattle.mine_render.proofs.Stamp.{tile_no, columns-bytes, tile_columns_of}
use Rattle.mine_render.proofs.Layers.{tile_more}
use Rattle.mine_render.proofs.draw_tiles.Goals as goal

pub blit-requires : goal.blit-requires
blit-requires c =
    record {
      framed = rw c.loop-k.invariant (framed-pack _);
      bytes = columns-bytes _ (art_of c.at-code.result c.args.is_open) (tile_columns_of _ _ _ _ c.new-tiles.ensures c.of.ensures);
      across = omega arith;
      down = omega arith;
    }

pub loop-k-preserved : goal.loop-k-preserved
loop-k-preserved c =
    let a = c.args in
    let l = c.loop-k in
    c.blit.ensures
    ∙ tile_more (pixel a.frame.now) a.view.x a.view.y l.k a.grid.now a.is_open l.frame _ l.invariant
    (tile_columns_of _ _ _ _ c.new-tiles.ensures c.of.ensures ∙ ap (λ (t : ℕ). columns_of (art_of t a.is_open)) c.at-code.ensures)

pub returns : goal.returns
returns c =
    let a = c.args in
    let e : c.loop-k.k ≡ 112 = omega arith in
    c.loop-k.invariant ∙ rw e (parts_all (pixel a.frame.now) (window a.view.x a.view.y (tile_lit a.grid.now a.is_open)) tile_no 112 (λ x y hx hy. omega arith))
