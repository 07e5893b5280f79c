use mathlib.Core.Path.{sym, ap, ◌∙◌}
use native.Mathlib.Omega.{arith}
use Rattle.std.specs.Prelude.{is_some}
use Rattle.mine_rules.proofs.Next.{next-inside}
use Rattle.mine_moves.proofs.Applied.{stayed, died, steps_off, steps_to}
use Rattle.mine_rules.specs.CodeWays.{OnGrid}
use Rattle.mine_moves.proofs.moves.decide.Goals.{In-Some}
use Rattle.mine_moves.proofs.moves.decide.Goals as goal

abbrev Ahead : Type 0
Ahead = In-Some

there : (b : Ahead) → OnGrid b.in-Some.x b.in-Some.y
there b =
    next-inside b.args.dir b.args.s.player.px b.args.s.player.py b.requires.inside.home (sym b.in-Some.ensures)

pub returns-in_default : goal.returns-in_default
returns-in_default c = (λ m p. stayed p ∙ steps_off p c.args.dir (sym c.in_default.ensures), c.requires.inside)

pub overflow_mul-y : goal.overflow_mul-y
overflow_mul-y c = omega (arith, (there (goal.at.overflow_mul-y c).In-Some).down)

pub overflow_add-y : goal.overflow_add-y
overflow_add-y c = let t = there (goal.at.overflow_add-y c).In-Some in omega (arith, t.across, t.down)

pub enemy_at-requires : goal.enemy_at-requires
enemy_at-requires c =
    record { slots = c.requires.lent.slots; inside = let t = there c in omega (arith, t.across, t.down) }

pub returns-in-Some-enemy_at : goal.returns-in-Some-enemy_at
returns-in-Some-enemy_at c = (
  λ m p. died p
      ∙ steps_to p c.args.dir c.in-Some.x c.in-Some.y (there (goal.at.returns-in-Some-enemy_at c).In-Some) (sym c.in-Some.ensures)
      (ap is_some (sym c.enemy_at.ensures ∙ c.in-Some-enemy_at.is)),
  record { cell = c.requires.inside.cell; home = c.requires.inside.home },
)

pub meet-requires : goal.meet-requires
meet-requires c =
    record { lends = c.requires; there = there (goal.at.meet-requires c).In-Some }

pub returns : goal.returns
returns c = (
  λ m p. c.meet.ensures.0 m p
      ∙ steps_to p c.args.dir c.in-Some.x c.in-Some.y (there (goal.at.returns c).In-Some) (sym c.in-Some.ensures)
      (ap is_some (sym c.enemy_at.ensures ∙ c.in_default-enemy_at.is)),
  c.meet.ensures.1,
)
