-- Document 01, 'What has to be reshaped': one question takes the creatures as a lent list and tells the first at a cell, or nobody; document 02 (iii): and how many.
use Rattle.std.specs.Prelude.{List, ℕ, Option}
use Rattle.found.specs.First.{first}
use Rattle.found.specs.declared.Found.{Found}
use Rattle.cutter_ground.specs.declared.Mover.{Mover}
use Rattle.cutter_ground.specs.Movers.{stands_at}

abbrev pub who_at : List Mover → ℕ → ℕ → Option Found
who_at list x y = first (stands_at x y) list
