use Rattle.trace_calls.specs.Shared.{marks_at}
use Rattle.trace_calls.proofs.shared.marks_of.Goals as goal

pub returns : goal.returns
unfolding marks_at
returns c = rw (c.word.ensures.is, c.word-2.ensures.is)
