-- Lists of creatures in the arguments of a question.
use Rattle.std.specs.Prelude.{cond, List, ℕ, ◌+◌, ◌*◌, ◌/◌, ◌<◌, ◌≤◌, ltb, pos, length}
use Rattle.laws.specs.Lists.{table}
use Rattle.cutter_ground.specs.Movers as Ground
use Rattle.cutter_ground.specs.declared.Mover.{Mover}
use Rattle.mine_state.specs.State as Mine
use Rattle.mine_state.specs.declared.Enemy.{Enemy}
use Rattle.trace_states.specs.Mines.{ENEMY, enemy_at}
use Rattle.trace_states.specs.Cutters.{MOVER, mover_at}

-- n creatures of k bytes each, and one of them
pub record InList (k : ℕ) (l : List ℕ) (n from : ℕ) : Type 0 where
  pub inside : n * k ≤ length l
  pub one : from < n

-- all of a list
unfoldable pub enemies_in : List ℕ → List Enemy
enemies_in l = table (length l / ENEMY) (λ i. enemy_at (i * ENEMY) l)

unfoldable pub movers_in : List ℕ → List Mover
movers_in l = table (length l / MOVER) (λ i. mover_at (i * MOVER) l)

-- creature k of a list of n, and an empty slot past them
abbrev pub no_enemy : Enemy
no_enemy = record { x = 0; y = 0; dir = 0 }

unfoldable pub enemy_or : ℕ → List ℕ → ℕ → Enemy
enemy_or n l k = cond (ltb k n) (enemy_at (k * ENEMY) l) no_enemy

abbrev pub no_mover : Mover
no_mover = record { x = 0; y = 0; vx = pos 0; vy = pos 0 }

unfoldable pub mover_or : ℕ → List ℕ → ℕ → Mover
mover_or n l k = cond (ltb k n) (mover_at (k * MOVER) l) no_mover

-- as many as a game holds, from one on
unfoldable pub enemies_from : ℕ → List ℕ → ℕ → List Enemy
enemies_from n l from = table Mine.MAX_ENEMIES (λ i. enemy_or n l (from + i))

unfoldable pub movers_from : ℕ → List ℕ → ℕ → List Mover
movers_from n l from = table Ground.MAX_ENEMIES (λ i. mover_or n l (from + i))
