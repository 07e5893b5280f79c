use mathlib.Core.Path.{sym, ◌∙◌}
use native.Mathlib.Omega.{arith}
use Rattle.mine_rules.specs.Move.{pushed}
use Rattle.mine_rules.proofs.Next.{next-inside}
use Rattle.mine_moves.proofs.Applied.{stayed, shoved, freed}
use Rattle.mine_rules.specs.CodeWays.{OnGrid}
use Rattle.mine_moves.proofs.moves.push.Goals.{After-free}
use Rattle.mine_moves.proofs.moves.push.Goals as goal

abbrev Asked : Type 0
Asked = After-free

behind : (f : Asked) → OnGrid f.in-Some.bx f.in-Some.by
behind f =
    next-inside f.args.dir f.args.x f.args.y f.requires.there (sym f.in-Some.ensures)

pub returns-then-not-sideways : goal.returns-then-not-sideways
unfolding pushed
returns-then-not-sideways c =
    (λ m p. stayed p ∙ simp (sym c.sideways.ensures ∙ c.if-not-sideways.true), c.requires.lends.inside)

pub returns-in_default : goal.returns-in_default
unfolding pushed
returns-in_default c =
    (λ m p. stayed p ∙ simp (sym c.sideways.ensures ∙ c.if-not-sideways.false, sym c.in_default.ensures), c.requires.lends.inside)

pub returns-then-not-free : goal.returns-then-not-free
unfolding pushed
returns-then-not-free c = (
  λ m p. stayed p ∙ simp (
    sym c.sideways.ensures ∙ c.if-not-sideways.false,
    sym c.in-Some.ensures,
    freed p c.in-Some.bx c.in-Some.by ∙ sym c.free.ensures ∙ c.if-not-free.true,
  ),
  c.requires.lends.inside,
)

pub overflow_mul-result : goal.overflow_mul-result
overflow_mul-result c = omega (arith, (behind (goal.at.overflow_mul-result c).After-free).down)

pub overflow_add-result : goal.overflow_add-result
overflow_add-result c = let o = behind (goal.at.overflow_add-result c).After-free in omega (arith, o.across, o.down)

pub returns : goal.returns
unfolding pushed
returns c =
    let o = behind (goal.at.returns c).After-free in
    let bx = c.in-Some.bx in
    let by = c.in-Some.by in
    simp c.go.ensures (
      λ m p. shoved p c.args.x c.args.y bx by
          ∙ simp (
            sym c.sideways.ensures ∙ c.if-not-sideways.false,
            sym c.in-Some.ensures,
            freed p bx by ∙ sym c.free.ensures
                ∙ c.if-not-free.false,
          ),
      record { cell = omega (arith, o.across, o.down); home = c.requires.there },
    )
