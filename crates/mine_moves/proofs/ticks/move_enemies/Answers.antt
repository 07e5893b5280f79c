use mathlib.Core.List.{List}
use mathlib.Core.Path.{sym, ◌∙◌, ap}
use Rattle.mine_state.specs.declared.Enemy.{Enemy}
use Rattle.mine_state.proofs.Facts.{sound}
use Rattle.mine_rules.specs.Tick.{enemies_moved}
use Rattle.mine_apart.specs.CodeApart.{standing}
use Rattle.mine_apart.proofs.Places.{whole_again, apart_of}
use Rattle.mine_moves.specs.CodeSteps.{dead_if}
use Rattle.mine_moves.proofs.ticks.move_enemies.Goals as goal

pub parts_of-parts-requires : goal.parts_of-parts-requires
parts_of-parts-requires c =
    record { few = c.requires.few; placed = (sound c.args.m c.requires).placed }

pub tick_on-caught-requires : goal.tick_on-caught-requires
tick_on-caught-requires c =
    record { cells = c.requires.cells; parts = apart_of c.args.m c.requires c.parts_of-parts.ensures }

pub returns : goal.returns
returns c =
    let m = c.args.m in
    ap (λ (l : List Enemy). dead_if c.tick_on-caught.result (standing m m.grid l m.count m.px m.py)) c.enemies_of-m.ensures
    ∙ sym (c.tick_on-caught.ensures.does m)
    ∙ ap (λ (l : List Enemy). enemies_moved (standing m m.grid l m.count m.px m.py)) (whole_again m c.requires c.parts_of-parts.ensures)
