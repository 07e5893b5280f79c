use mathlib.Core.Bool.{true, false}
use mathlib.Core.Path.{◌≡◌, sym, ◌∙◌, ap}
use Prim.Native.Nat.{ℕ}
use borrow.Author.Tests.{lt-ltb, le-ltb}
use lib.Dec.{ltb}
use Rattle.cutter_pass.specs.Pass.{CLEAR_BELOW, scored}
use Rattle.cutter_state.specs.State.{black_in}
use Rattle.cutter_turn.proofs.score.Goals as goal

pub returns-then-black-lt-CLEAR_BELOW : goal.returns-then-black-lt-CLEAR_BELOW
unfolding scored
returns-then-black-lt-CLEAR_BELOW c =
    let few : ltb (black_in c.args.c) CLEAR_BELOW ≡ true = ap (λ (n : ℕ). ltb n CLEAR_BELOW) (sym c.black_count-black.ensures)
    ∙ lt-ltb _ CLEAR_BELOW c.if-black-lt-CLEAR_BELOW.true in
    rw few

pub returns : goal.returns
unfolding scored
returns c =
    let many : ltb (black_in c.args.c) CLEAR_BELOW ≡ false = ap (λ (n : ℕ). ltb n CLEAR_BELOW) (sym c.black_count-black.ensures)
    ∙ le-ltb _ CLEAR_BELOW c.if-black-lt-CLEAR_BELOW.false in
    rw many
