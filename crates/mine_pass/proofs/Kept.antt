-- A pass keeps a state well formed, its coins and its boulders. Assumes nothing.
use mathlib.Core.Bool.{Bool, cond}
use mathlib.Core.List.{List}
use Prim.Native.Nat.{ℕ}
use Rattle.laws.proofs.Choice.{cond_both}
use Rattle.mine_state.specs.declared.Mine.{Mine}
use Rattle.mine_state.specs.WellFormed.{WellFormed}
use Rattle.mine_rules.specs.Tick as Tick
use Rattle.mine_rules.specs.Gravity.{gravity_of}
use Rattle.mine_keeps.specs.Kept.{Kept}
use Rattle.mine_keeps.proofs.Changes.{kept_self, kept_then}
use Rattle.mine_keeps.proofs.Gravity.{gravity-kept}
use Rattle.mine_keeps.proofs.Ticks.{tick-kept}
use Rattle.pace.specs.declared.Ticks.{Ticks}
use Rattle.pace.specs.Pace.{both_ticks}
use Rattle.mine_pass.specs.declared.MineTurn.{MineTurn}
use Rattle.mine_pass.specs.Pass.{GRAVITY_CYCLES, ENEMY_CYCLES, played, paced, after_keys, pass_on}
use Rattle.mine_pass.proofs.Keys.{keys_kept}

module _ (m : Mine) (w : WellFormed m) where
  pub fallen_kept : (due : Bool) → Kept m (cond due (gravity_of m) m)
  fallen_kept due = cond_both (Kept m) due _ _ (λ _. gravity-kept m w) (λ _. kept_self w)

  ticked_kept : (due : Bool) → Kept m (cond due (Tick.enemies_moved m) m)
  ticked_kept due = cond_both (Kept m) due _ _ (λ _. tick-kept m w) (λ _. kept_self w)

pub paced-kept : (m : Mine) (due : Ticks) → WellFormed m → Kept m (paced m due)
paced-kept m due w =
    let k = fallen_kept m w due.one in
    kept_then k (ticked_kept (cond due.one (gravity_of m) m) k.formed due.two)

pub pass_kept : (first second : ℕ) (m : Mine) (keys : List ℕ) (time : ℕ) → WellFormed m → Kept m (pass_on first second m keys time).passed.game
unfolding pass_on after_keys
pass_kept first second m keys time w =
    let P : MineTurn → Type 0 = λ t. Kept m t.passed.game in
    let k = keys_kept m keys w in
    cond_both P m.won _ _ (λ _. kept_self w)
    (λ _. cond_both P m.dead _ _ (λ _. kept_self w)
    (λ _. cond_both P (played m keys).quit _ _ (λ _. k)
    (λ _. kept_then k (paced-kept (played m keys).game (both_ticks time first second GRAVITY_CYCLES ENEMY_CYCLES) k.formed))))
