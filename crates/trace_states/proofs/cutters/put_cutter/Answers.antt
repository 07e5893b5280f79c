use borrow.Author.Rules.{rules}
use mathlib.Core.Path.{◌≡◌, refl}
use lib.ListN.{length}
use Rattle.cutter_ground.specs.Cells.{CN}
use Rattle.trace_words.proofs.Lays.{lays-both, lays_as, lays-whole}
use Rattle.trace_states.specs.Cutters.{cutter_bytes}
use Rattle.trace_states.proofs.cutters.put_cutter.Goals as goal

pub returns : goal.returns
unfolding cutter_bytes
returns c =
    let n : length c.args.c.grid ≡ CN = search rules in
    lays-whole c.requires (lays-both
    (lays-both (lays-both (lays-both (lays-both (lays-both (lays_as refl n c.put_cells.ensures) c.put_player.ensures) c.put_movers.ensures)
    c.put_word.ensures) c.put_pair.ensures) c.put_pair-2.ensures) c.put_pair-3.ensures)
