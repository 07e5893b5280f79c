-- The ring as the code claims it is the ring of a fresh level. Assumes nothing.
use mathlib.Core.List.{List}
use mathlib.Core.Path.{◌≡◌, refl}
use Prim.Native.Nat.{ℕ, ◌-◌}
use lib.ListN.{replicate}
use borrow.Rule.Slice.PartMut.{put_mid}
use Rattle.laws.specs.Lists.{across}
use Rattle.cutter_ground.specs.Cells.{CW, CH, CN, CB_BLACK}
use Rattle.cutter_rules.specs.Level.{edge, fresh_grid}
use Rattle.cutter_level.specs.CodeRing.{claim_column}

-- two rows of claimed cells, and then the columns
pub ring_claimed : (top bottom : List ℕ) → top ≡ edge → bottom ≡ edge
    → across claim_column CH 0 (put_mid (CN - CW) CW (put_mid 0 CW (replicate CN CB_BLACK) top) bottom) ≡ fresh_grid
unfolding claim_column fresh_grid
ring_claimed top bottom e f = rw (e, f) refl
