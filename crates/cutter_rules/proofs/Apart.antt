-- The player on the line and the creatures on black never stand on one cell, so the tick needs no test for it. Assumes nothing.
use mathlib.Core.Bool.{true, ◌&&◌}
use mathlib.Core.List.{List}
use mathlib.Core.Path.{◌≡◌, sym, ap, ◌∙◌}
use Prim.Native.Nat.{ℕ, ◌+◌, ◌*◌, ◌/◌, ◌%◌}
use native.Mathlib.Omega.{arith}
use lib.IntN.{ℤ}
use borrow.Author.Tests.{eqb-true, eq-eqb}
use Rattle.laws.proofs.Choice.{cond_both, and_left}
use Rattle.cutter_ground.specs.Cells.{CW, CB_BLACK, CB_TRAIL, cell_at, black_at, place}
use Rattle.cutter_ground.specs.declared.Mover.{Mover}
use Rattle.cutter_state.specs.declared.Cutter.{Cutter}
use Rattle.cutter_state.specs.State.{holds_at}
use Rattle.cutter_state.specs.WellFormed.{is_unit, mover_ok, WellFormed}
use Rattle.cutter_state.proofs.Ring.{holds_code}
use Rattle.cutter_rules.specs.Ahead.{diagonal_of}
use Rattle.cutter_rules.specs.Tick.{gone_to, bounced}
use Rattle.cutter_ground.specs.Movers.{place_of}

-- a creature on black goes to black, or stays there
gone-black : (g : List ℕ) (e : Mover) (vx vy : ℤ) → black_at g (place_of e) ≡ true → black_at g (place_of (gone_to g e vx vy)) ≡ true
unfolding gone_to
gone-black g e vx vy b =
    let to = diagonal_of vx vy (place_of e) in
    cond_both (λ (m : Mover). black_at g (place_of m) ≡ true) (black_at g to) _ _
    (λ t. let q : to / CW * CW + to % CW ≡ to = omega arith in rw q t)
    (λ _. b)

pub bounced-black : (g : List ℕ) (e : Mover) → black_at g (place_of e) ≡ true → black_at g (place_of (bounced g e)) ≡ true
unfolding bounced
bounced-black g e b = gone-black g e _ _ b

pub mover_black : (g : List ℕ) (e : Mover) → mover_ok g e ≡ true → black_at g (place_of e) ≡ true
unfolding mover_ok
mover_black g e m =
    let h = and_left (holds_at g CB_BLACK e.x e.y) (is_unit e.vx) (and_left (holds_at g CB_BLACK e.x e.y && is_unit e.vx) (is_unit e.vy) m) in
    eq-eqb (cell_at g (place_of e)) CB_BLACK (holds_code g CB_BLACK e.x e.y h)

-- while trailing, what stands on black is not where the player is
apart : (c : Cutter) → WellFormed c → c.trailing ≡ true → (e : Mover) → black_at c.grid (place_of e) ≡ true → place_of e ≡ place c.px c.py → ⊥
apart c w t e b q =
    let p : cell_at c.grid (place c.px c.py) ≡ CB_TRAIL = holds_code c.grid CB_TRAIL c.px c.py (rw t at w.player) in
    let z : ◌≡◌ {A = ℕ} 2 0 = sym p ∙ ap (cell_at c.grid) (sym q) ∙ eqb-true (cell_at c.grid (place_of e)) CB_BLACK b in
    omega arith

-- while trailing, no creature is on the player's cell after its move
pub never_on_player : (c : Cutter) → WellFormed c → c.trailing ≡ true → (e : Mover) → mover_ok c.grid e ≡ true → place_of (bounced c.grid e) ≡ place c.px c.py → ⊥
never_on_player c w t e m q = apart c w t (bounced c.grid e) (bounced-black c.grid e (mover_black c.grid e m)) q
