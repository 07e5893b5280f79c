use mathlib.Core.Path.{◌≡◌, ◌∙◌}
use native.Mathlib.Omega.{arith}
use lib.ListN.{replicate}
use Rattle.laws.proofs.Lists.{drop-replicate}
use Rattle.laws.proofs.Table.{length-table, table_none, table_more}
use Rattle.cutter_rules.specs.Level.{drawn_mover}
use Rattle.cutter_level.proofs.Draws.{draws_each}
use Rattle.cutter_ground.specs.Movers.{MAX_ENEMIES, blank_slot}
use Rattle.cutter_level.proofs.drawn_enemies.Goals as goal

pub loop-i-init : goal.loop-i-init
loop-i-init c = table_none (drawn_mover c.args.draws.now) (replicate MAX_ENEMIES blank_slot)

pub drawn_mover-requires : goal.drawn_mover-requires
drawn_mover-requires c =
    draws_each c.args.draws.now c.args.n c.loop-i.i c.requires (omega arith)

pub loop-i-preserved : goal.loop-i-preserved
loop-i-preserved c =
    rw (c.drawn_mover.ensures, c.loop-i.invariant)
    (table_more c.loop-i.i (drawn_mover c.args.draws.now) (replicate MAX_ENEMIES blank_slot) blank_slot (omega (arith, c.requires)))

pub returns : goal.returns
returns c =
    let e : c.loop-i.i ≡ c.args.n = omega arith in
    c.loop-i.invariant ∙ rw (e, drop-replicate MAX_ENEMIES c.args.n blank_slot, length-table c.args.n (drawn_mover c.args.draws.now))
