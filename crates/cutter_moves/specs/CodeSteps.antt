-- Block Cutter: a step told as numbers, and what they make of a state. No promise cites it.
use Rattle.std.specs.Prelude.{Bool, true, false, cond, List, ◌≡◌, ℕ, ◌<◌, ◌≤◌, ◌/◌, ◌%◌, ℤ, pos, length, get_or, set}
use Rattle.cutter_ground.specs.Cells.{CW, CH, CN, CB_TRAIL, place}
use Rattle.cutter_ground.specs.declared.Mover.{Mover}
use Rattle.cutter_state.specs.declared.Cutter.{Cutter}
use Rattle.cutter_rules.specs.Step.{target, entered, cut_closed, at_border, stepped, closes}
use Rattle.cutter_moves.specs.declared.player.Step.{Step}
use Rattle.cutter_ground.specs.Movers.{MAX_ENEMIES}

-- a player's part of a state, and its own cell with its code
abbrev pub playing : List ℕ → ℕ → ℕ → ℤ → ℤ → Bool → Bool → Step
playing g x y dx dy trailing dead = record { px = x; py = y; dx = dx; dy = dy; trailing = trailing; dead = dead; closes = false; at = place x y; code = get_or g (place x y) 0 }

-- the player as it is
abbrev pub staying : Cutter → Step
staying c = playing c.grid c.px c.py c.dx c.dy c.trailing c.dead

-- the same with one thing changed: dead, without a direction, at the cell t, closing a cut there
abbrev pub dying : Step → Step
dying s = record { px = s.px; py = s.py; dx = s.dx; dy = s.dy; trailing = s.trailing; dead = true; closes = s.closes; at = s.at; code = s.code }

abbrev pub stopping : Step → Step
stopping s = record { px = s.px; py = s.py; dx = pos 0; dy = pos 0; trailing = s.trailing; dead = s.dead; closes = s.closes; at = s.at; code = s.code }

abbrev pub going : Step → ℕ → Step
going s t = record { px = t % CW; py = t / CW; dx = s.dx; dy = s.dy; trailing = s.trailing; dead = s.dead; closes = s.closes; at = s.at; code = s.code }

abbrev pub shutting : Step → ℕ → Step
shutting s t = record { px = s.px; py = s.py; dx = s.dx; dy = s.dy; trailing = s.trailing; dead = s.dead; closes = true; at = t; code = s.code }

-- the player enters the cell t and leaves line there
abbrev pub laying : Step → ℕ → Step
laying s t = record { px = t % CW; py = t / CW; dx = s.dx; dy = s.dy; trailing = s.trailing; dead = s.dead; closes = s.closes; at = t; code = CB_TRAIL }

-- the claimed cell t is entered, the cut closed, the player moved to the border
abbrev pub closed_at : Cutter → ℕ → Cutter
closed_at c t = at_border (cut_closed (entered c t))

-- the state after a step that closes nothing
abbrev pub applied : Cutter → Step → Cutter
applied c t = record {
  grid = set c.grid t.at t.code;
  px = t.px;
  py = t.py;
  dx = t.dx;
  dy = t.dy;
  trailing = t.trailing;
  enemies = c.enemies;
  count = c.count;
  level = c.level;
  lives = c.lives;
  dead = t.dead;
  won_level = c.won_level;
}

abbrev pub does : Cutter → Step → Cutter
does c t = cond t.closes (closed_at c t.at) (applied c t)

-- the lent ground, what staying is, and a cell to step to
pub record Lends (g : List ℕ) (s : Step) (t : ℕ) : Type 0 where
  pub cells : length g ≡ CN
  pub here : s.at < CN
  pub there : t < CN

pub record Decides (g : List ℕ) (n : ℕ) (s : Step) : Type 0 where
  pub cells : length g ≡ CN
  pub here : s.at < CN
  pub few : n ≤ MAX_ENEMIES

-- the lent ground, a player on it, and the number of creatures
pub record Walks (g : List ℕ) (n x y : ℕ) : Type 0 where
  pub cells : length g ≡ CN
  pub across : x < CW
  pub down : y < CH
  pub few : n ≤ MAX_ENEMIES

-- a state that has the lent ground and whose player stays by s
pub record Plays (c : Cutter) (g : List ℕ) (s : Step) : Type 0 where
  pub same : c.grid ≡ g
  pub stays : s ≡ staying c

-- the step r makes this of the state c, and closes a cut or not; if so, at the cell t
pub record Tells (c : Cutter) (r : Step) (after : Cutter) (closing : Bool) (t : ℕ) : Type 0 where
  pub makes : does c r ≡ after
  pub shuts : r.closes ≡ closing
  pub there : r.closes ≡ true → r.at ≡ t

-- whatever else such a state holds: the step r makes of it what the rule makes
abbrev pub Makes : List ℕ → Step → Step → (Cutter → Cutter) → (Cutter → Bool) → ℕ → Type 0
Makes g s r rule closing t = (c : Cutter) → Plays c g s → Tells c r (rule c) (closing c) t

-- the same of a whole step, with the creatures told
abbrev pub Stepped : List ℕ → List Mover → ℕ → Step → Step → Type 0
Stepped g es n s r = (c : Cutter) → Plays c g s → c.enemies ≡ es → c.count ≡ n → Tells c r (stepped c) (closes c) (target c)

-- a step on the lent ground, which is h afterwards
pub record SteppedOn (g : List ℕ) (es : List Mover) (n : ℕ) (s r : Step) (h : List ℕ) : Type 0 where
  pub makes : Stepped g es n s r
  pub inside : r.at < CN
  pub after : h ≡ cond r.closes g (set g r.at r.code)
