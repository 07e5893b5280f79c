use mathlib.Core.Bool.{Bool}
use mathlib.Core.List.{List}
use mathlib.Core.Path.{◌≡◌}
use Prim.Native.Nat.{ℕ}
use lib.ListN.{drop}
use Rattle.mine_state.specs.declared.Enemy.{Enemy}
use Rattle.mine_apart.specs.CodeApart.{Spotted}
use Rattle.mine_moves.specs.CodeSteps.{playing}
use Rattle.mine_pass.specs.Pass.{played}
use Rattle.mine_turn.specs.CodeParts.{Ready}
use Rattle.mine_turn.proofs.play.Given as goal

abbrev pub invariant-loop-key : goal.invariant-loop-key
invariant-loop-key l =
    Ready l.grid l.spots l.player × ((f : List Bool) (es : List Enemy) (n : ℕ) → Spotted es n l.spots
    → played (playing f l.grid es n l.player) (drop l.key-index l.keys) ≡ played (playing f l.initial.grid es n l.initial.player) l.keys)
