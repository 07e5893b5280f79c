-- What a tick in place asks of the lent arrays and numbers, and what it does to them. No promise of a public call cites it.
use Rattle.std.specs.Prelude.{Bool, List, ◌≡◌, ℕ, get_or, set}
use Rattle.mine_state.specs.declared.Mine.{Mine}
use Rattle.mine_state.specs.declared.Enemy.{Enemy}
use Rattle.mine_apart.specs.CodeApart.{joined, Apart}
use Rattle.mine_fall.specs.declared.Fallen.{Fallen}
use Rattle.mine_state.specs.CodeState.{Sound}

-- the last number takes the place of another, and leaves b
abbrev pub left : List ℕ → ℕ → ℕ → ℕ → List ℕ
left l k last b = set (set l k (get_or l last 0)) last b

-- the state of the lent arrays and numbers, and of what else m holds
abbrev pub whole : Mine → ℕ → ℕ → List ℕ → List Bool → List Enemy → Fallen → Mine
whole m px py g f es s = record { grid = g; falling = f; px = px; py = py; enemies = es; count = s.count; coins = s.coins; needed = m.needed; dead = s.dead; won = m.won }

pub record Falling (g : List ℕ) (f : List Bool) (spots ds : List ℕ) (s : Fallen) (px py : ℕ) : Type 0 where
  pub parts : Apart s.count spots ds
  pub sound : (m : Mine) → Sound (whole m px py g f (joined s.count spots ds) s)

-- whatever else a state holds, the rule makes the second arrays and numbers of the first
pub record Dropped (rule : Mine → Mine) (px py : ℕ) (g : List ℕ) (f : List Bool) (spots ds : List ℕ) (s : Fallen) (g' : List ℕ) (f' : List Bool) (spots' ds' : List ℕ)
    (r : Fallen) : Type 0 where
  pub parts : Apart r.count spots' ds'
  pub does : (m : Mine) → rule (whole m px py g f (joined s.count spots ds) s) ≡ whole m px py g' f' (joined r.count spots' ds') r
