-- The marked case of a pass. Assumes nothing.
use mathlib.Core.Path.{refl}
use Rattle.cutter_pass.specs.Cases.{P14}

pub p14 : P14
p14 second = (refl, refl)
