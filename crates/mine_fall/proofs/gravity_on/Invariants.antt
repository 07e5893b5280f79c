use Prim.Native.Nat.{◌<◌}
use Rattle.mine_state.specs.declared.Mine.{Mine}
use Rattle.mine_state.specs.State.{H}
use Rattle.mine_apart.specs.CodeApart.{Apart}
use Rattle.mine_rules.specs.Gravity.{gravity_of}
use Rattle.mine_fall.proofs.Parts.{apart_state}
use Rattle.mine_fall.proofs.Loops.{During, rows_left, cells_left}
use Rattle.mine_fall.proofs.gravity_on.Given as goal

abbrev pub invariant-loop-x : goal.invariant-loop-x
invariant-loop-x l =
    let o = l.initial in
    (l.y < H) × Apart l.fallen.count l.spots l.dirs ×
    ((m : Mine) → During (cells_left l.y 0 (apart_state m l.px l.py o.grid o.falling o.spots o.dirs o.fallen)) (cells_left l.y l.x)
    (apart_state m l.px l.py l.grid l.falling l.spots l.dirs l.fallen))

abbrev pub invariant-loop-y : goal.invariant-loop-y
invariant-loop-y l =
    let o = l.initial in
    Apart l.fallen.count l.spots l.dirs ×
    ((m : Mine) → During (gravity_of (apart_state m l.px l.py o.grid o.falling o.spots o.dirs o.fallen)) (rows_left l.y)
    (apart_state m l.px l.py l.grid l.falling l.spots l.dirs l.fallen))
