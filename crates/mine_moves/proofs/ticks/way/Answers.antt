use mathlib.Core.Path.{sym, ap, ◌∙◌}
use native.Mathlib.Omega.{arith}
use Rattle.std.specs.Prelude.{is_some}
use Rattle.mine_state.proofs.Creatures.{map-inside}
use Rattle.mine_rules.specs.Tick.{way_of}
use Rattle.mine_rules.proofs.Next.{next-inside}
use Rattle.mine_moves.proofs.Turns.{goes_blocked, goes-met, goes_open}
use Rattle.mine_rules.specs.CodeWays.{OnGrid}
use Rattle.mine_moves.proofs.ticks.way.Goals.{In_ok-x}
use Rattle.mine_moves.proofs.ticks.way.Goals as goal

abbrev Ahead : Type 0
Ahead = In_ok-x

there : (b : Ahead) → OnGrid b.in_ok-x.x b.in_ok-x.y
there b =
    let i = map-inside b.args.e b.requires.placed in
    next-inside b.args.dir b.args.e.x b.args.e.y (record { across = i.0; down = i.1 }) (sym b.in_ok-x.ensures)

pub returns-in_err-x : goal.returns-in_err-x
unfolding way_of
returns-in_err-x c = λ m g s. c.from_residual.ensures ∙ simp (sym c.in_err-x.ensures)

pub at-requires : goal.at-requires
at-requires c =
    record { cells = c.requires.lent.cells; across = (there c).across; down = (there c).down }

pub returns-then-at-ne-EMPTY : goal.returns-then-at-ne-EMPTY
unfolding way_of
returns-then-at-ne-EMPTY c =
    λ m g s. simp (sym c.in_ok-x.ensures)
    (goes_blocked m g s c.args.dir c.in_ok-x.x c.in_ok-x.y (there (goal.at.returns-then-at-ne-EMPTY c).In_ok-x) (λ q. c.if-at-ne-EMPTY.true (c.at.ensures ∙ q)))

pub overflow_mul-y : goal.overflow_mul-y
overflow_mul-y c = omega (arith, (there (goal.at.overflow_mul-y c).In_ok-x).down)

pub overflow_add-y : goal.overflow_add-y
overflow_add-y c = let t = there (goal.at.overflow_add-y c).In_ok-x in omega (arith, t.across, t.down)

pub enemy_at-requires : goal.enemy_at-requires
enemy_at-requires c =
    record { slots = c.requires.lent.slots; inside = let t = there (goal.at.enemy_at-requires c).In_ok-x in omega (arith, t.across, t.down) }

pub returns-in-Some : goal.returns-in-Some
unfolding way_of
returns-in-Some c =
    λ m g s. simp (sym c.in_ok-x.ensures)
    (goes-met m g s c.args.dir c.in_ok-x.x c.in_ok-x.y (there (goal.at.returns-in-Some c).In_ok-x)
    (sym c.at.ensures ∙ c.if-at-ne-EMPTY.false) (ap is_some (sym c.enemy_at.ensures ∙ c.in-Some.is)))

pub returns : goal.returns
unfolding way_of
returns c =
    λ m g s. simp (sym c.in_ok-x.ensures)
    (goes_open m g s c.args.dir c.in_ok-x.x c.in_ok-x.y (there (goal.at.returns c).In_ok-x)
    (sym c.at.ensures ∙ c.if-at-ne-EMPTY.false) (ap is_some (sym c.enemy_at.ensures ∙ c.in_default.is)))
