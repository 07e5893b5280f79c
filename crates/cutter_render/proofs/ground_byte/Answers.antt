use mathlib.Core.Path.{refl}
use Prim.Native.Nat.{◌+◌, ◌*◌}
use native.Mathlib.Omega.{arith}
use Rattle.cutter_render.proofs.Ground.{four_cells}
use Rattle.cutter_render.proofs.ground_byte.Goals as goal

pub returns : goal.returns
returns c =
    let a = c.args in
    let at = a.p * 4 * 64 + a.cx in
    rw (
      c.cell_bits.ensures,
      c.cell_bits-2.ensures,
      c.cell_bits-3.ensures,
      c.cell_bits-4.ensures,
    )
    (four_cells a.grid.now a.p a.cx c.requires.cells (omega arith) (omega arith) at (at + 64)
    (at + 2 * 64) (at + 3 * 64) refl refl refl refl)
