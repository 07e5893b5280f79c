use mathlib.Core.Path.{◌≡◌, sym, ◌∙◌, ap}
use Prim.Native.Nat.{ℕ, zero, suc, ◌<◌}
use native.Mathlib.Omega.{arith}
use lib.Dec.{leb}
use borrow.Author.Tests.{le-leb, lt-leb, ne_eqb}
use Rattle.std.proofs.Common.{rules}
use Rattle.mine_state.specs.declared.Mine.{Mine}
use Rattle.mine_state.specs.State.{EMPTY, DIRT, WALL, BOULDER, COIN, EXIT, code_at}
use Rattle.mine_state.specs.Change.{entered}
use Rattle.mine_rules.specs.Move.{met}
use Rattle.mine_moves.specs.declared.moves.Move.{Move}
use Rattle.mine_moves.proofs.Applied.{stayed, won_it, went, took, code}
use Rattle.mine_moves.proofs.moves.meet.Goals as goal

-- empty or dirt
entered_if : (m : Mine) (d x y t : ℕ) → code_at m x y ≡ t → t < 2 → entered m x y ≡ met m d x y
unfolding met
entered_if m d x y zero e h = simp e
entered_if m d x y (suc zero) e h = simp e
entered_if m d x y (suc (suc n)) e h = absurd (omega arith)

pub returns-then-p : goal.returns-then-p
unfolding met
returns-then-p c = (
  λ m p. won_it p ∙ simp (
    code p c.args.x c.args.y ∙ sym c.at.ensures ∙ c.in-5.is,
    ap (λ (t : Move). leb t.player.needed
        t.player.coins) (sym p.stays) ∙ le-leb _ _ c.if-p.true,
  ),
  record { cell = c.requires.lends.inside.cell; home = c.requires.lends.inside.home },
)

pub returns-in-2 : goal.returns-in-2
unfolding met
returns-in-2 c =
    (λ m p. stayed p ∙ simp (code p c.args.x c.args.y ∙ sym c.at.ensures ∙ c.in-2.is), c.requires.lends.inside)

pub returns-else-p : goal.returns-else-p
unfolding met
returns-else-p c = (
  λ m p. stayed p ∙ simp (
    code p c.args.x c.args.y ∙ sym c.at.ensures ∙ c.in-5.is,
    ap (λ (t : Move). leb t.player.needed
        t.player.coins) (sym p.stays) ∙ lt-leb _ _ c.if-p.false,
  ),
  c.requires.lends.inside,
)

pub returns-in-1 : goal.returns-in-1
returns-in-1 c =
    simp c.go.ensures (
      λ m p. went p c.args.x c.args.y ∙ entered_if m c.args.dir c.args.x c.args.y _ (code p c.args.x c.args.y ∙ sym c.at.ensures) (search rules),
      record {
        cell = c.requires.lends.inside.cell;
        home = c.requires.there;
      },
    )

pub returns-in-4 : goal.returns-in-4
unfolding met
returns-in-4 c = (
  λ m p. took p c.args.x c.args.y ∙ simp (code p c.args.x c.args.y ∙ sym c.at.ensures ∙ c.in-4.is),
  record {
    cell = c.requires.lends.inside.cell;
    home = c.requires.there;
  },
)

pub returns-in-3 : goal.returns-in-3
unfolding met
returns-in-3 c =
    (λ m p. c.push.ensures.0 m p ∙ simp (code p c.args.x c.args.y ∙ sym c.at.ensures ∙ c.in-3.is), c.push.ensures.1)

pub returns-in_default : goal.returns-in_default
unfolding met
returns-in_default c =
    let t = c.at.result in (
      λ m p. stayed p ∙ simp (
        code p c.args.x c.args.y
            ∙ sym c.at.ensures,
        ne_eqb t WALL (search rules),
        ne_eqb t EXIT (search rules),
        ne_eqb t DIRT (search rules),
        ne_eqb t EMPTY (search rules),
        ne_eqb t COIN (search rules),
        ne_eqb t BOULDER (search rules),
      ),
      c.requires.lends.inside,
    )
