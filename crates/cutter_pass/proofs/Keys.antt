-- The keys of a pass keep a state well formed. Assumes nothing.
use Rattle.std.specs.Prelude.{Option, Some, None}
use mathlib.Core.List.{List, [], ◌∷◌}
use Prim.Native.Nat.{ℕ}
use lib.Dec.{eqb}
use Rattle.laws.proofs.Choice.{cond_both}
use Rattle.cutter_state.specs.declared.Cutter.{Cutter}
use Rattle.cutter_state.specs.WellFormed.{WellFormed}
use Rattle.cutter_keeps.specs.Kept.{Kept}
use Rattle.cutter_keeps.proofs.Changes.{kept_self, kept_then}
use Rattle.cutter_keeps.proofs.Direction.{direction-kept}
use Rattle.cutter_rules.specs.Step.{directed}
use Rattle.cutter_pass.specs.Pass.{keyed, played}
use Rattle.controls.specs.Keys.{UP, RIGHT, DOWN, LEFT, KEY_QUIT, turned, Played, keyed_by, played_by}

pub key_kept : (c : Cutter) (key : ℕ) → WellFormed c → Kept c (keyed c key)
unfolding keyed_by
key_kept c key w =
    cond_both (Kept c) (eqb key 5) _ _ (λ _. direction-kept c UP w)
    (λ _. cond_both (Kept c) (eqb key 8) _ _ (λ _. direction-kept c DOWN w)
    (λ _. cond_both (Kept c) (eqb key 7) _ _ (λ _. direction-kept c LEFT w)
    (λ _. cond_both (Kept c) (eqb key 9) _ _ (λ _. direction-kept c RIGHT w) (λ _. kept_self w))))

-- a direction keeps well-formedness
pub turned_kept : (c : Cutter) (d : Option ℕ) → WellFormed c → WellFormed (turned directed c d)
turned_kept c None w = w
turned_kept c (Some d) w = (direction-kept c d w).formed

pub keys_kept : (c : Cutter) (keys : List ℕ) → WellFormed c → Kept c (played c keys).game
unfolding played_by
keys_kept c [] w = kept_self w
keys_kept c (key ∷ keys) w =
    cond_both (λ (p : Played Cutter). Kept c p.game) (eqb key KEY_QUIT) _ _ (λ _. kept_self w)
    (λ _. let k = key_kept c key w in kept_then k (keys_kept (keyed c key) keys k.formed))
