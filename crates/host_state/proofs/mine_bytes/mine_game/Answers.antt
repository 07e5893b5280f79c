use Rattle.host_state.specs.Mine.{game_of}
use Rattle.host_state.proofs.mine_bytes.mine_game.Goals as goal

pub returns : goal.returns
unfolding game_of
returns c = rw (c.marks_of-falling.ensures, c.flag_of.ensures, c.flag_of-2.ensures)
