-- What is told of a region besides its cells.
use Rattle.std.specs.Prelude.{List, ℕ, eqb, get_or}
use Rattle.laws.specs.Lists.{count}
use Rattle.cutter_ground.specs.Cells.{CN}
use Rattle.cutter_ground.specs.declared.Mover.{Mover}
use Rattle.cutter_ground.specs.Movers.{place_of}

-- the creatures that stand on cells with the number k
abbrev pub on_number : List ℕ → ℕ → List Mover → ℕ
on_number L k es = count (λ m. eqb (get_or L (place_of m) CN) k) es
