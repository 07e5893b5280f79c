-- The cases, computed. Assumes nothing.
use mathlib.Core.Path.{refl}
use Rattle.mine_state.specs.State.{empty_at, free_at}
use Rattle.mine_state.specs.WellFormed.{cells_ok, creatures_ok, numbers_ok, well_formed}
use Rattle.mine_rules.specs.Ways.{next_cell}
use Rattle.mine_rules.specs.Move.{pushed, met, moved}
use Rattle.mine_rules.specs.Gravity.{carried, rested, without, over_player, over_creature, over_empty, rolled, over_other, cell_fall, row_fall, gravity_of}
use Rattle.mine_rules.specs.Tick.{way_of, tick_one, enemies_moved}
use Rattle.mine_rules.specs.Cases.{P4, CoinFalls, P5, Taken, P6, Sides, Rest, P7, Push, Exit, Beyond, P8, Turns, Catch}

pub p4 : P4
unfolding well_formed cells_ok creatures_ok numbers_ok empty_at free_at carried rested without over_player over_creature over_empty rolled over_other cell_fall row_fall gravity_of
p4 = record { right = refl; marked = refl; unmarked = refl }

pub coin_falls : CoinFalls
unfolding well_formed cells_ok creatures_ok numbers_ok empty_at free_at carried rested without over_player over_creature over_empty rolled over_other cell_fall row_fall gravity_of
coin_falls = record { right = refl; marked = refl }

pub p5 : P5
unfolding well_formed cells_ok creatures_ok numbers_ok empty_at free_at carried rested without over_player over_creature over_empty rolled over_other cell_fall row_fall gravity_of
p5 = record { right = refl; ends = refl }

pub taken : Taken
unfolding well_formed cells_ok creatures_ok numbers_ok empty_at free_at carried rested without over_player over_creature over_empty rolled over_other cell_fall row_fall gravity_of
taken = record { right = refl; stays = refl }

pub p6 : P6
unfolding well_formed cells_ok creatures_ok numbers_ok empty_at free_at carried rested without over_player over_creature over_empty rolled over_other cell_fall row_fall gravity_of
p6 = record { right = refl; ends = refl }

pub sides : Sides
unfolding well_formed cells_ok creatures_ok numbers_ok empty_at free_at carried rested without over_player over_creature over_empty rolled over_other cell_fall row_fall gravity_of
sides = record { right = refl; ends = refl }

pub rest : Rest
unfolding well_formed cells_ok creatures_ok numbers_ok empty_at free_at carried rested without over_player over_creature over_empty rolled over_other cell_fall row_fall gravity_of
rest = record { right = refl; ends = refl }

pub p7 : P7
unfolding well_formed cells_ok creatures_ok numbers_ok empty_at next_cell met moved
p7 = record { right = refl; stays = refl }

pub push : Push
unfolding well_formed cells_ok creatures_ok numbers_ok empty_at free_at next_cell pushed met moved
push = record { right = refl; stays = refl; upward = refl }

pub exit : Exit
unfolding well_formed cells_ok creatures_ok numbers_ok empty_at next_cell met moved
exit = record { right = refl; short = refl; reached = refl }

pub beyond : Beyond
unfolding well_formed cells_ok creatures_ok numbers_ok empty_at free_at next_cell pushed met moved
beyond = record { right = refl; stays = refl }

pub p8 : P8
unfolding well_formed cells_ok creatures_ok numbers_ok empty_at free_at carried rested without over_player over_creature over_empty rolled over_other cell_fall row_fall gravity_of
p8 = record { right = refl; left = refl; two = refl }

pub turns : Turns
unfolding well_formed cells_ok creatures_ok numbers_ok empty_at next_cell way_of tick_one enemies_moved
turns = record { right = refl; left = refl; ahead = refl; other = refl; back = refl; stays = refl }

pub catch : Catch
unfolding well_formed cells_ok creatures_ok numbers_ok empty_at next_cell way_of tick_one enemies_moved
catch = record { right = refl; both = refl }
