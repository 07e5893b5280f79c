-- Who is there, in two numbers.
use Rattle.std.specs.Prelude.{Option}
use Rattle.found.specs.First.{index, number}
use Rattle.found.specs.declared.Found.{Found}
use Rattle.bench_calls.specs.declared.There.{There}

-- the answer's index and number
abbrev pub there_of : Option Found → There
there_of f = record { index = index f; number = number f }
