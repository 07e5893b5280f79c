-- Document 01, 'One pass, and the pacing record': the record is lent to the pass, which updates it.
use Rattle.std.specs.Prelude.{List, ℕ}
use Rattle.mine_pass.specs.Pass.{pass_at, marks_of}
use Rattle.mine_pass.specs.declared.MinePassed.{MinePassed}
use Rattle.mine_pass.specs.declared.MineTurn.{MineTurn}
use Rattle.mine_state.specs.declared.Mine.{Mine}
use Rattle.pace.specs.declared.Pace.{Pace}

-- what a pass answers, and the record that it leaves
abbrev pub pass_of : Mine → List ℕ → ℕ → Pace → MinePassed × Pace
pass_of m keys time pace =
    let t : MineTurn = pass_at m keys time pace.first pace.second in
    (t.passed, marks_of t)
