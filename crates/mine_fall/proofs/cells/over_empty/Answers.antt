use mathlib.Core.Path.{refl, sym}
use Prim.Native.Nat.{◌+◌}
use native.Mathlib.Omega.{arith}
use Rattle.mine_apart.proofs.Places.{spot_below}
use Rattle.mine_rules.specs.Gravity.{over_empty, over_creature, without, rested}
use Rattle.mine_fall.proofs.Lent.{on_player, off-player, found}
use Rattle.mine_fall.proofs.cells.over_empty.Goals as goal

pub returns-then-player-at : goal.returns-then-player-at
unfolding over_empty
returns-then-player-at c =
    λ m s.
    simp (on_player s c.args.x (c.args.y + 1) c.requires.here.cell.across c.if-player-at.true) (c.over_player.ensures m)

pub returns-in_default : goal.returns-in_default
unfolding over_empty
returns-in_default c =
    λ m s.
    let h = c.requires.here.cell in
    let p = off-player s c.args.x (c.args.y + 1) h.across c.if-player-at.false in
    let q = found s c.args.x (c.args.y + 1) h.across h.down
    (sym c.in_default.ensures) in
    simp (p, q) (c.move_obj.ensures m)

pub returns-then-falling-i : goal.returns-then-falling-i
unfolding over_empty over_creature without
returns-then-falling-i c =
    λ m s.
    let h = c.requires.here.cell in
    let k = c.in-Some.found.index in
    let t = sym c.in-Some.ensures in
    let p = off-player s c.args.x (c.args.y + 1) h.across c.if-player-at.false in
    let q = found s c.args.x (c.args.y + 1) h.across h.down t in
    simp (p, q, c.if-falling-i.true) ((c.move_obj-then-falling-i.ensures (without m k)).0, spot_below m s.spotted c.args.x (c.args.y + 1) k _ h.across h.down t)

pub returns : goal.returns
unfolding over_empty over_creature rested
returns c =
    λ m s.
    let h = c.requires.here.cell in
    let p = off-player s c.args.x (c.args.y + 1) h.across c.if-player-at.false in
    let q = found s c.args.x (c.args.y + 1) h.across h.down
    (sym c.in-Some.ensures) in
    simp (p, q, c.if-falling-i.false) (refl, omega arith)
