-- Document 01's marked cases, theorems about the games' definitions.
use Rattle.std.specs.Prelude.{List, [], ◌∷◌, ◌≡◌, ℕ, zero, suc, pos, negsuc, set}
use Rattle.mine_state.specs.declared.Mine.{Mine}
use Rattle.mine_rules.specs.Load.{loaded}
use Rattle.mine_rules.specs.Move.{moved}
use Rattle.mine_rules.specs.Tick.{enemies_moved}
use Rattle.mine_rules.specs.Cases.{P1, P4, P5, P6, P7, P8}
use Rattle.cutter_ground.specs.Cells.{CB_FILLED, place}
use Rattle.cutter_state.specs.declared.Cutter.{Cutter}
use Rattle.cutter_state.specs.State.{creatures, black_in, claimed_in}
use Rattle.cutter_state.specs.Change.{with_grid}
use Rattle.cutter_rules.specs.Level.{fresh_grid, fresh_level}
use Rattle.cutter_rules.specs.Step.{directed, stepped}
use Rattle.cutter_rules.specs.Tick.{enemies_stepped}
use Rattle.cutter_pass.specs.Cases.{P14}
use Rattle.controls.specs.Keys.{RIGHT, DOWN}

-- a fresh level, down 31 steps
abbrev pub again : ℕ → (Cutter → Cutter) → Cutter → Cutter
again zero f c = c
again (suc k) f c = f (again k f c)

abbrev pub cut_down : Cutter → List ℕ → Cutter
cut_down c draws = again 31 stepped (directed (fresh_level c draws) DOWN)

-- so many claimed and black cells
abbrev pub Split : ℕ → ℕ → Cutter → Type 0
Split claimed black c = (claimed_in c ≡ claimed) × (black_in c ≡ black)

-- A fresh level is that of any state c at the level; four draws give a creature's place less 1, then its velocity, 0 for -1 and 1 for 1.
pub record Cases : Type 0 where
  -- load: the numbers of the level (mine_rules/specs/Cases.antt)
  pub p1 : P1
  -- load, right three times: (4,1), 1 coin
  pub p2 : let m : Mine = moved (moved (moved loaded RIGHT) RIGHT) RIGHT in (m.px ≡ 4) × (m.py ≡ 1) × (m.coins ≡ 1)
  -- load, creature tick: no change
  pub p3 : enemies_moved loaded ≡ loaded
  -- on small mines (mine_rules/specs/Cases.antt): gravity, a marked coin walked into, A squashed of A, B, C
  pub p4 : P4
  pub p5 : P5
  pub p6 : P6
  pub p7 : P7
  pub p8 : P8
  -- fresh, down 31 steps, creature (10,10): 1,118 claimed, 930 black; for every velocity
  pub p9 : (c : Cutter) (vx vy : ℕ) → c.level ≡ 1 → Split 1118 930 (cut_down c (9 ∷ 9 ∷ vx ∷ vy ∷ []))
  -- creature (50,10): 1,148 and 900
  pub p10 : (c : Cutter) (vx vy : ℕ) → c.level ≡ 1 → Split 1148 900 (cut_down c (49 ∷ 9 ∷ vx ∷ vy ∷ []))
  -- one on each: as P9
  pub p11 : (c : Cutter) (vx vy wx wy : ℕ) → c.level ≡ 2 → Split 1118 930 (cut_down c (9 ∷ 9 ∷ vx ∷ vy ∷ 49 ∷ 9 ∷ wx ∷ wy ∷ []))
  -- creature (62,10), velocity (1,1), fresh: (61,11), (-1,1)
  pub p12 : (c : Cutter) → c.level ≡ 1 →
      creatures (enemies_stepped (fresh_level c (61 ∷ 9 ∷ 1 ∷ 1 ∷ []))) ≡ (record { x = 61; y = 11; vx = negsuc 0; vy = pos 1 } ∷ [])
  -- creature (10,10), velocity (1,1), only the diagonal claimed: stays, velocity unchanged
  pub p13 : (c : Cutter) → c.level ≡ 1 →
      let corner : Cutter = with_grid (fresh_level c (9 ∷ 9 ∷ 1 ∷ 1 ∷ [])) (set fresh_grid (place 11 11) CB_FILLED) in
      enemies_stepped corner ≡ corner
  -- mark 4,294,967,000: step due at 2,399,704, not at 2,399,703 (cutter_pass/specs/Cases.antt)
  pub p14 : P14
