use mathlib.Core.Bool.{◌&&◌}
use mathlib.Core.Path.{◌≡◌}
use lib.ListN.{drop}
use Rattle.laws.specs.Lists.{all}
use Rattle.mine_state.specs.State.{is_code}
use Rattle.mine_check.proofs.codes_ok.Given as goal

abbrev pub invariant-loop-code : goal.invariant-loop-code
invariant-loop-code l = (is_code l.most && all is_code (drop l.code-index l.grid)) ≡ all is_code l.grid
