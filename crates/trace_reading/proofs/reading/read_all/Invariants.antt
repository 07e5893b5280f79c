use Rattle.std.proofs.Common.{true}
use Rattle.trace_reading.specs.CodeBuffers.{Buffers}
use Rattle.trace_reading.specs.CodeTurns.{SomeRead}
use Rattle.trace_reading.proofs.reading.read_all.Given as goal

abbrev pub invariant-loop : goal.invariant-loop
invariant-loop g l = Buffers l.body l.current l.run.state × SomeRead l.run true
