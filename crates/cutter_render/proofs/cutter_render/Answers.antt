use Rattle.laws.proofs.Lists.{all_weaken}
use Rattle.frame.proofs.Draw.{framed-pack}
use Rattle.cutter_state.specs.State.{creatures}
use Rattle.cutter_state.specs.WellFormed.{mover_ok}
use Rattle.cutter_state.proofs.Ring.{holds-inside}
use Rattle.cutter_render.specs.CodeDraw.{on_panel}
use Rattle.cutter_render.proofs.Marks.{holds_panel}
use Rattle.cutter_render.proofs.Layers.{whole}
use Rattle.cutter_render.proofs.cutter_render.Goals as goal

pub draw_enemies-requires : goal.draw_enemies-requires
draw_enemies-requires c =
    let w = c.requires.formed in
    record {
      framed = rw c.draw_ground.ensures (framed-pack _);
      each = all_weaken (mover_ok c.args.c.grid) on_panel (holds_panel c.args.c.grid) (creatures c.args.c) w.each;
    }

pub draw_player-requires : goal.draw_player-requires
draw_player-requires c =
    let h = holds-inside _ _ _ _ c.requires.formed.player in
    record { framed = rw c.draw_enemies.ensures (framed-pack _); across = h.0; down = h.1 }

pub draw_lives-requires : goal.draw_lives-requires
draw_lives-requires c =
    record {
      framed = rw c.draw_player.ensures (framed-pack _);
      few = c.requires.formed.lives;
    }

pub returns : goal.returns
returns c =
    whole c.args.c _ _ _ _ c.draw_ground.ensures c.draw_enemies.ensures c.draw_player.ensures
    c.draw_lives.ensures
