-- Block Cutter: how many cells are taken by the search of a closing and by the walk to the border. A call without a search: zero.
use Rattle.std.specs.Prelude.{cond, ℕ, length}
use Rattle.cutter_state.specs.declared.Cutter.{Cutter}
use Rattle.cutter_closing.specs.Counted.{MAX_COMP}
use Rattle.cutter_closing.specs.Cost.{searched_of}
use Rattle.cutter_border.proofs.Nearest.{taken}
use Rattle.cutter_rules.specs.declared.Made.{Made}
use Rattle.cutter_rules.specs.Step.{player_cell, target, entered, cut_closed, stepped, closes, back_at_start, respawned}
use Rattle.cutter_rules.specs.Sweeps.{cut_swept, swept_step}

-- the walk from where the player stands
unfoldable pub border_walked : Cutter → ℕ
border_walked c = length (taken c.grid (player_cell c)).0

-- a step has both where it closes a cut
unfoldable pub step_searched : Cutter → ℕ
step_searched c = cond (closes c) (searched_of MAX_COMP c.grid) 0

unfoldable pub step_walked : Cutter → ℕ
step_walked c = cond (closes c) (border_walked (cut_closed (entered c (target c)))) 0

abbrev pub step_made : Cutter → Made
step_made c = record { game = stepped c; searched = step_searched c; walked = step_walked c }

-- by sweeps nothing is searched: there is no queue
unfoldable pub swept_walked : Cutter → ℕ
swept_walked c = cond (closes c) (border_walked (cut_swept (entered c (target c)))) 0

abbrev pub swept_made : Cutter → Made
swept_made c = record { game = swept_step c; searched = 0; walked = swept_walked c }

-- a respawn walks from the start
unfoldable pub respawn_walked : Cutter → ℕ
respawn_walked c = border_walked (back_at_start c)

abbrev pub respawn_made : Cutter → Made
respawn_made c = record { game = respawned c; searched = 0; walked = respawn_walked c }
