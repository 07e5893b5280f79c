use Rattle.std.proofs.Common.{rules, ◌≡◌, ◌∙◌, ap, length}
use Rattle.std.proofs.iter.runs.Made.{chains}
use Rattle.std.proofs.lemmas.List.{take_min}
use mathlib.Core.Bool.{Bool}
use Prim.Native.Nat.{min}
use lib.Dec.{eqb}
use lib.ListN.{get_or, take}
use Rattle.laws.specs.Lists.{count}
use Rattle.laws.proofs.Lists.{count-is, mapped}
use Rattle.cutter_ground.specs.declared.Mover.{Mover}
use Rattle.cutter_ground.specs.Cells.{CN}
use Rattle.cutter_ground.specs.Movers.{MAX_ENEMIES, place_of}
use Rattle.trainer.proofs.lesson.creatures_on.Goals as goal

pub returns : goal.returns
returns c =
    let a = c.args in
    let on : Mover → Bool = λ e. eqb (get_or a.nums.now (place_of e) CN) a.number in
    let n : length a.enemies ≡ MAX_ENEMIES = search (rules, mapped) in
    let e : take (min a.count MAX_ENEMIES) a.enemies ≡ take a.count a.enemies = rw (← n) (take_min a.count a.enemies) in
    search (rules, chains) ∙ count-is on (take (min a.count MAX_ENEMIES) a.enemies) ∙ ap (count on) e
