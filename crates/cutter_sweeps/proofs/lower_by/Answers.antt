use mathlib.Core.Path.{◌≡◌, sym, ap, ◌∙◌}
use mathlib.Core.List.{List}
use Prim.Native.Nat.{ℕ, ◌<◌, min}
use native.Mathlib.Omega.{arith}
use lib.ListN.{get_or}
use Rattle.laws.proofs.Lists.{get_or_default}
use Rattle.cutter_ground.specs.Cells.{CN, CB_FILLED}
use Rattle.cutter_joined.proofs.Joined.{black_in_lem}
use Rattle.cutter_sweeps.specs.Sweeps.{lower}
use Rattle.cutter_sweeps.specs.CodeTable.{Numbers}
use Rattle.cutter_sweeps.proofs.Low.{lower_in, lower_out}
use Rattle.cutter_sweeps.proofs.lower_by.Goals as goal
use Rattle.cutter_sweeps.proofs.lower_by.Goals.{else-d-lt-CN-via-then-d-lt-CN+else-grid-d-eq-CB_BLACK, else-d-lt-CN-via-else-d-lt-CN}

counts : (g L : List ℕ) (d v : ℕ) → Numbers g L → d < CN → get_or g d 0 ≡ 0 → lower g L d v ≡ min (get_or L d 0) v
counts g L d v n i e =
    lower_in g L d v (get_or_default g d CB_FILLED 0 (omega (arith, n)) ∙ e) ∙ ap (λ (x : ℕ). min x v) (get_or_default L d CN 0 (omega (arith, n)))

pub returns-then-n-v : goal.returns-then-n-v
returns-then-n-v c =
    omega (arith, counts _ _ c.args.d c.args.v c.requires c.if-d-lt-CN.true c.if-grid-d-eq-CB_BLACK.true, c.if-n-v)

pub returns-else-n-v : goal.returns-else-n-v
returns-else-n-v c =
    omega (arith, counts _ _ c.args.d c.args.v c.requires c.if-d-lt-CN.true c.if-grid-d-eq-CB_BLACK.true, c.if-n-v)

pub returns-else-d-lt-CN : goal.returns-else-d-lt-CN
returns-else-d-lt-CN c =
    let g = c.args.grid.now in
    let d = c.args.d in
    sym (lower_out g c.args.nums.now d c.args.v (λ k.
    let h = black_in_lem g d k in
    elim c.else-d-lt-CN.branch [
      | else-d-lt-CN-via-then-d-lt-CN+else-grid-d-eq-CB_BLACK w ↦ w.if-grid-d-eq-CB_BLACK.false (get_or_default g d 0 CB_FILLED h ∙ k)
      | else-d-lt-CN-via-else-d-lt-CN w ↦ omega (arith, c.requires, w.if-d-lt-CN.false)
    ]))
