-- A slot is blank: what `==` answers. Assumes nothing.
use mathlib.Core.Bool.{◌&&◌, and_assoc}
use mathlib.Core.Path.{◌≡◌, fun_ext}
use lib.Dec.{eqb}
use lib.IntN.{pos}
use Rattle.std.specs.Ordering.{int_eq}
use Rattle.cutter_ground.specs.declared.Mover.{Mover}
use Rattle.cutter_state.specs.WellFormed.{is_blank}
use Rattle.cutter_state.proofs.Signs.{zero_eq}

pub blank_is : (λ (e : Mover). eqb e.x 0 && (eqb e.y 0 && (int_eq e.vx (pos 0) && int_eq e.vy (pos 0)))) ≡ is_blank
unfolding is_blank
blank_is = fun_ext (λ e. simp (zero_eq e.vx, zero_eq e.vy, and_assoc))
