use Rattle.trace_reading.proofs.Turns.{turned, goes_on}
use Rattle.trace_reading.proofs.reading.read_all.Goals as goal

pub loop-preserved : goal.loop-preserved
loop-preserved g c =
    let t = c.turn-t in
    let s = turned c.loop.run _ _ t.result c.loop.invariant.1 t.ensures.1 in
    (t.ensures.0, goes_on t.result.run t.result.more c.if-not-t.false s)

pub returns-then-not-t : goal.returns-then-not-t
returns-then-not-t g c =
    let s = turned c.loop.run _ _ c.turn-t.result c.loop.invariant.1 c.turn-t.ensures.1 in
    (s.0, record { ran = s.1.ran; ended = s.1.ended })
