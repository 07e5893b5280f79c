use mathlib.Core.Path.{◌≡◌, refl, sym, ap, ◌∙◌}
use Prim.Native.Nat.{ℕ}
use lib.Dec.{eqb}
use borrow.Author.Rules.{rules}
use borrow.Author.Tests.{eq-eqb, ne_eqb}
use Rattle.cutter_ground.specs.Cells.{CB_FILLED, CB_TRAIL}
use Rattle.cutter_rules.specs.Step.{trailing_step}
use Rattle.cutter_moves.proofs.Applied.{open_tells, died, shut, drew, code}
use Rattle.cutter_moves.proofs.player.step_trailing.Goals as goal

pub returns-in-2 : goal.returns-in-2
unfolding trailing_step
returns-in-2 c =
    let told = sym c.cell.ensures ∙ c.in-2.is in
    rw c.killed.ensures (
      λ m p. open_tells p refl (ap (λ (k : ℕ). eqb k CB_FILLED) (code p c.args.at ∙ told)) (died p ∙ simp (eq-eqb _ _ (code p c.args.at ∙ told))),
      c.requires.here,
    )

pub returns-in-1 : goal.returns-in-1
unfolding trailing_step
returns-in-1 c =
    let told = sym c.cell.ensures ∙ c.in-1.is in
    rw c.closing.ensures (
      λ m p.
          let claimed = code p c.args.at ∙ told in
          record { makes = shut p c.args.at ∙ rw claimed; shuts = rw claimed; there = λ _. refl },
      c.requires.there,
    )

pub returns-in_default : goal.returns-in_default
unfolding trailing_step
returns-in_default c =
    let line : c.cell.result ≡ CB_TRAIL → ⊥ = search rules in
    let claimed : c.cell.result ≡ CB_FILLED → ⊥ = search rules in
    rw c.laid.ensures (
      λ m p.
          let black = ne_eqb _ _ (λ q. claimed (c.cell.ensures ∙ sym (code p c.args.at) ∙ q)) in
          open_tells p refl black (drew p c.args.at ∙ simp (ne_eqb _ _ (λ q. line (c.cell.ensures ∙ sym (code p c.args.at) ∙ q)), black)),
      c.requires.there,
    )
