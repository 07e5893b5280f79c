-- Document 01's example, computed. Assumes nothing.
use mathlib.Core.Bool.{false}
use mathlib.Core.Path.{◌≡◌, refl}
use Rattle.text.specs.Text.{bytes_of, decimal_in, further, numbers_line, line_of}
use Rattle.refusal.specs.Faults.{first_fault, fault_in}
use Rattle.mine_state.specs.State.{empty_at, free_at}
use Rattle.mine_state.specs.WellFormed.{cells_ok, creature_fault, creatures_fault, numbers_ok, refusal_of}
use Rattle.mine_rules.specs.Ways.{next_cell}
use Rattle.mine_rules.specs.Load.{read_at, read_from, mine_of, loaded}
use Rattle.mine_rules.specs.Move.{pushed, met, moved}
use Rattle.mine_rules.specs.Gravity.{carried, rested, without, over_player, over_creature, over_empty, rolled, over_other, cell_fall, row_fall, gravity_of}
use Rattle.mine.specs.Calls.{move_call, gravity_call}
use Rattle.lines.specs.Runs.{lines_of, next}
use Rattle.lines.specs.Mines.{said_of, mine_byte, mine_lines}

pub example : mine_lines false loaded (bytes_of "L9g") ≡ bytes_of "1 1 0 28 2 0 0\n2 1 0 28 2 0 0\n2 1 0 28 2 0 0\n"
unfolding next mine_byte said_of lines_of line_of numbers_line further decimal_in move_call gravity_call refusal_of cells_ok creatures_fault creature_fault
    fault_in first_fault numbers_ok empty_at free_at loaded mine_of read_from read_at pushed met moved next_cell carried rested without over_player over_creature
    over_empty rolled over_other cell_fall row_fall gravity_of
example = refl
