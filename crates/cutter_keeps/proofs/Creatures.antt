-- Cells by column and row; creatures on ground that changes, and their slots. Assumes nothing.
use mathlib.Core.Bool.{Bool, true, false}
use mathlib.Core.List.{List, [], ◌∷◌}
use mathlib.Core.Path.{◌≡◌, refl, ◌∙◌}
use Prim.Native.Nat.{ℕ, ◌+◌, ◌-◌, ◌*◌, ◌/◌, ◌%◌, ◌≤◌, ◌<◌}
use native.Mathlib.Omega.{arith}
use lib.ListN.{length, take, drop, replicate, length-append, length-replicate}
use lib.Seq.{take_at, drop_at}
use Rattle.laws.specs.Lists.{all, any}
use Rattle.laws.proofs.Lists.{all_replicate}
use Rattle.laws.proofs.Choice.{and_left, and_right, and_both, and_three, or_left, or_right}
use Rattle.cutter_ground.specs.Cells.{CW, CN, CB_BLACK, cell_at}
use Rattle.cutter_ground.specs.declared.Mover.{Mover}
use Rattle.cutter_state.specs.State.{holds_at}
use Rattle.cutter_state.specs.WellFormed.{is_unit, mover_ok, is_blank}
use Rattle.cutter_state.proofs.Ring.{holds-inside, holds_code, code_holds}
use Rattle.cutter_ground.specs.Movers.{MAX_ENEMIES, place_of, slots, blank_slot as zeros}

-- a cell of the grid, by its column and row
pub cell_holds : (g : List ℕ) (k t : ℕ) → t < CN → cell_at g t ≡ k → holds_at g k (t % CW) (t / CW) ≡ true
cell_holds g k t h e =
    let q : t / CW * CW + t % CW ≡ t = omega arith in
    code_holds g k (t % CW) (t / CW) (omega arith) (omega arith) (rw q e)

-- ---- where each creature's cell is black still

pub mover_still : (g h : List ℕ) (e : Mover) → (cell_at g (place_of e) ≡ CB_BLACK → cell_at h (place_of e) ≡ CB_BLACK) → mover_ok g e ≡ true → mover_ok h e ≡ true
unfolding mover_ok
mover_still g h e s m =
    let t = and_three (holds_at g CB_BLACK e.x e.y) (is_unit e.vx) (is_unit e.vy) m in
    let i = holds-inside g CB_BLACK e.x e.y t.0 in
    let here = code_holds h CB_BLACK e.x e.y i.0 i.1 (s (holds_code g CB_BLACK e.x e.y t.0)) in
    rw (here, t.1) t.2

-- of creatures, none of whom is one of those that `off` tells
pub movers_still : (g h : List ℕ) (off : Mover → Bool) → ((e : Mover) → off e ≡ false → cell_at g (place_of e) ≡ CB_BLACK → cell_at h (place_of e) ≡ CB_BLACK)
    → (es : List Mover) → any off es ≡ false → all (mover_ok g) es ≡ true → all (mover_ok h) es ≡ true
movers_still g h off s [] n a = refl
movers_still g h off s (e ∷ es) n a =
    and_both (mover_ok h e) (all (mover_ok h) es)
    (mover_still g h e (s e (or_left (off e) (any off es) n)) (and_left (mover_ok g e) (all (mover_ok g) es) a))
    (movers_still g h off s es (or_right (off e) (any off es) n) (and_right (mover_ok g e) (all (mover_ok g) es) a))

-- ---- slots: the creatures come first, and zeros stand behind them

pub zeros_blank : (n : ℕ) → all is_blank (replicate n zeros) ≡ true
unfolding is_blank
zeros_blank n = all_replicate is_blank n zeros refl

module _ (es : List Mover) (n : ℕ) (e : length es ≡ n) where
  abbrev behind : List Mover
  behind = replicate (MAX_ENEMIES - length es) zeros

  pub slots_length : n ≤ MAX_ENEMIES → length (slots es) ≡ MAX_ENEMIES
  slots_length h = length-append es behind ∙ omega (arith, length-replicate (MAX_ENEMIES - length es) zeros)

  pub slots-each : take n (slots es) ≡ es
  slots-each = take_at es behind n e

  pub slots-rest : all is_blank (drop n (slots es)) ≡ true
  slots-rest = rw (drop_at es behind n e) (zeros_blank (MAX_ENEMIES - length es))
