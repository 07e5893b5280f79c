use mathlib.Core.List.{List}
use mathlib.Core.Path.{sym, ◌∙◌, ap}
use Rattle.mine_state.specs.declared.Enemy.{Enemy}
use Rattle.mine_state.proofs.Facts.{sound}
use Rattle.mine_rules.specs.Gravity.{gravity_of}
use Rattle.mine_apart.proofs.Places.{whole_again, apart_of}
use Rattle.mine_fall.specs.CodePlaces.{whole}
use Rattle.mine_fall.proofs.Parts.{numbers, sound-whole}
use Rattle.mine_fall.proofs.gravity.Goals as goal

pub parts_of-requires : goal.parts_of-requires
parts_of-requires c =
    record { few = c.requires.few; placed = (sound c.args.m c.requires).placed }

pub gravity_on-to-requires : goal.gravity_on-to-requires
gravity_on-to-requires c =
    let m = c.args.m in
    let q = c.parts_of.ensures in
    record { parts = apart_of m c.requires q; sound = λ m'. sound-whole m m' (whole_again m c.requires q) (sound m c.requires) }

pub returns : goal.returns
returns c =
    let m = c.args.m in
    ap (λ (es : List Enemy). whole m m.px m.py c.gravity_on-to.new.grid c.gravity_on-to.new.falling es c.gravity_on-to.result) c.enemies_of.ensures
    ∙ sym (c.gravity_on-to.ensures.does m)
    ∙ ap (λ (es : List Enemy). gravity_of (whole m m.px m.py m.grid m.falling es (numbers m.count m.coins m.dead)))
    (whole_again m c.requires c.parts_of.ensures)
