-- The keys of a pass keep a state well formed, its coins and its boulders. Assumes nothing.
use mathlib.Core.List.{List, [], ◌∷◌}
use Prim.Native.Nat.{ℕ}
use lib.Dec.{eqb}
use Rattle.laws.proofs.Choice.{cond_both}
use Rattle.mine_state.specs.declared.Mine.{Mine}
use Rattle.mine_state.specs.WellFormed.{WellFormed}
use Rattle.mine_keeps.specs.Kept.{Kept}
use Rattle.mine_keeps.proofs.Changes.{kept_self, kept_then}
use Rattle.mine_keeps.proofs.Moves.{move-kept}
use Rattle.mine_pass.specs.Pass.{keyed, played}
use Rattle.controls.specs.Keys.{UP, RIGHT, DOWN, LEFT, KEY_QUIT, Played, keyed_by, played_by}

pub key_kept : (m : Mine) (key : ℕ) → WellFormed m → Kept m (keyed m key)
unfolding keyed_by
key_kept m key w =
    cond_both (Kept m) (eqb key 5) _ _ (λ _. move-kept m UP w)
    (λ _. cond_both (Kept m) (eqb key 8) _ _ (λ _. move-kept m DOWN w)
    (λ _. cond_both (Kept m) (eqb key 7) _ _ (λ _. move-kept m LEFT w)
    (λ _. cond_both (Kept m) (eqb key 9) _ _ (λ _. move-kept m RIGHT w) (λ _. kept_self w))))

pub keys_kept : (m : Mine) (keys : List ℕ) → WellFormed m → Kept m (played m keys).game
unfolding played_by
keys_kept m [] w = kept_self w
keys_kept m (key ∷ keys) w =
    cond_both (λ (p : Played Mine). Kept m p.game) (eqb key KEY_QUIT) _ _ (λ _. kept_self w)
    (λ _. let k = key_kept m key w in kept_then k (keys_kept (keyed m key) keys k.formed))
