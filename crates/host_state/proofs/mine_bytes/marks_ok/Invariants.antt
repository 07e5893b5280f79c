use mathlib.Core.Bool.{◌&&◌}
use mathlib.Core.Path.{◌≡◌}
use lib.ListN.{drop}
use Rattle.laws.specs.Lists.{all}
use Rattle.host_state.specs.Flags.{is_flag}
use Rattle.host_state.proofs.mine_bytes.marks_ok.Given as goal

abbrev pub invariant-loop-mark : goal.invariant-loop-mark
invariant-loop-mark l = (l.ok && all is_flag (drop l.mark-index l.marks)) ≡ all is_flag l.marks
