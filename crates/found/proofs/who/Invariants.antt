-- No more are counted than were looked at, and what will be told is the answer.
use Rattle.std.proofs.Common.{drop, ◌≡◌}
use Rattle.found.specs.First.{first}
use Rattle.found.specs.CodeTally.{to_tell}
use Rattle.found.proofs.Scan.{Within}
use Rattle.found.proofs.who.Given as goal

abbrev pub invariant-loop-e : goal.invariant-loop-e
invariant-loop-e g l =
    let here = g.T.Stands.stands l.x l.y in
    Within l.met l.e-index × (to_tell here l.met (drop l.e-index l.list) ≡ first here l.list)
