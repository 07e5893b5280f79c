use Rattle.std.proofs.Common.{rules, ◌≡◌, List, sym, ap, ◌∙◌, Option, None, ℕ}
use Rattle.std.specs.Prelude.{position}
use Rattle.std.proofs.iter.runs.Made.{chains}
use Rattle.found.specs.First.{At}
use Rattle.found.proofs.First.{told_at, first_position}
use Rattle.laws.specs.Lists.{count}
use Rattle.laws.proofs.Lists.{count-is}
use Rattle.cutter_ground.specs.declared.Mover.{Mover}
use Rattle.cutter_rules.specs.Step.{is_at, creature_at}
use Rattle.cutter_moves.proofs.enemies.enemy_at.Goals as goal

searched : (at : ℕ) (l : List Mover) {r p : Option ℕ} → p ≡ r → p ≡ position (is_at at) l → told_at r (count (is_at at) l) ≡ creature_at l at
searched at l w e = ap (λ (t : Option ℕ). told_at t (count (is_at at) l)) (sym w ∙ e) ∙ first_position (is_at at) l

pub returns-in_err-index : goal.returns-in_err-index
returns-in_err-index c =
    let z : None ≡ creature_at c.args.herd.now c.args.at = searched c.args.at c.args.herd.now c.in_err-index.was c.slot_of.ensures in
    search rules

pub returns : goal.returns
returns c =
    let test = is_at c.args.at in
    let n : c.count-number.result ≡ count test c.args.herd.now = search (rules, chains) ∙ count-is test c.args.herd.now in
    ap (At c.in_ok-index.index) n ∙ searched c.args.at c.args.herd.now c.in_ok-index.was c.slot_of.ensures
