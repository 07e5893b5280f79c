use borrow.Author.Rules.{rules}
use Rattle.frame.specs.CodeDraw.{unlit}
use Rattle.frame.proofs.Draw.{framed-pack}
use Rattle.mine_render.proofs.Layers.{whole}
use Rattle.mine_render.proofs.render.Goals as goal

pub draw_tiles-requires : goal.draw_tiles-requires
draw_tiles-requires c = record { framed = rw c.clear.ensures (framed-pack unlit); cells = search rules }

pub draw_enemies-requires : goal.draw_enemies-requires
draw_enemies-requires c = rw c.draw_tiles.ensures (framed-pack _)

pub draw_at-requires : goal.draw_at-requires
draw_at-requires c = rw c.draw_enemies.ensures (framed-pack _)

pub returns : goal.returns
returns c =
    let view = c.around-view.ensures in
    whole c.args.m _ _ _ _ _ _ view.left view.top c.clear.ensures c.draw_tiles.ensures c.draw_enemies.ensures c.draw_at.ensures
