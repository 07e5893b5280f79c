use Rattle.std.proofs.Common.{rules, ◌≡◌, List, sym, ap, ◌∙◌, Option, None, ℕ}
use Rattle.std.specs.Prelude.{position}
use Rattle.std.proofs.iter.runs.Made.{chains}
use Rattle.found.specs.First.{At}
use Rattle.found.proofs.First.{told_at, first_position}
use Rattle.laws.specs.Lists.{count}
use Rattle.laws.proofs.Lists.{count-is}
use Rattle.mine_apart.specs.CodeApart.{is_spot, first_spot}
use Rattle.mine_apart.proofs.Places.{unseen}
use Rattle.mine_apart.proofs.enemy_at.Goals as goal

searched : (at : ℕ) (l : List ℕ) {r p : Option ℕ} → p ≡ r → p ≡ position (is_spot at) l → told_at r (count (is_spot at) l) ≡ first_spot at l
searched at l w e = ap (λ (t : Option ℕ). told_at t (count (is_spot at) l)) (sym w ∙ e) ∙ first_position (is_spot at) l

pub returns-then-not-somebody : goal.returns-then-not-somebody
returns-then-not-somebody c =
    unseen (is_spot c.args.at) c.args.spots.now (sym c.somebody.ensures ∙ c.if-not-somebody.true)

pub returns-in_err-index : goal.returns-in_err-index
returns-in_err-index c =
    let z : None ≡ first_spot c.args.at c.args.spots.now = searched c.args.at c.args.spots.now c.in_err-index.was c.slot_of.ensures in
    search rules

pub returns : goal.returns
returns c =
    let test = is_spot c.args.at in
    let n : c.count-number.result ≡ count test c.args.spots.now = search (rules, chains) ∙ count-is test c.args.spots.now in
    ap (At c.in_ok-index.index) n ∙ searched c.args.at c.args.spots.now c.in_ok-index.was c.slot_of.ensures
