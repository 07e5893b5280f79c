use borrow.Author.Rules.{rules}
use mathlib.Core.Path.{◌≡◌, refl}
use lib.ListN.{length}
use Rattle.mine_state.specs.State.{AREA}
use Rattle.trace_words.proofs.Lays.{lays-both, lays_as, lays-whole}
use Rattle.trace_states.specs.Mines.{mine_bytes}
use Rattle.trace_states.proofs.mines.put_mine.Goals as goal

pub returns : goal.returns
unfolding mine_bytes
returns c =
    let n : length c.args.m.grid ≡ AREA = search rules in
    lays-whole c.requires (lays-both
    (lays-both (lays-both (lays-both
    (lays-both (lays-both (lays-both (lays_as refl n c.put_cells.ensures) c.put_falling.ensures) c.put_pair.ensures) c.put_enemies.ensures)
    c.put_word.ensures) c.put_pair-2.ensures) c.put_pair-3.ensures) c.put_pair-4.ensures)
