-- Block Mine's state in a trace, 850 bytes: grid 336, falling 336, px 8, py 8, eight slots of x 8, y 8, dir 1, count 8, coins 4, needed 4,
-- dead 1, won 1, marks 4 and 4.
use Rattle.std.specs.Prelude.{Bool, List, ◌++◌, map, ℕ, ◌+◌, ◌*◌}
use Rattle.laws.specs.Lists.{bit, table}
use Rattle.mine_state.specs.State.{AREA, MAX_ENEMIES}
use Rattle.mine_state.specs.declared.Enemy.{Enemy}
use Rattle.mine_state.specs.declared.Mine.{Mine}
use Rattle.trace_words.specs.Numbers.{byte_at, word_at, bytes_in, pair_in, flag_at, cells_at, flat, PLACE, MARK}

abbrev pub MINE : ℕ
MINE = 850

-- the bytes of a creature, and of all slots
abbrev pub ENEMY : ℕ
ENEMY = 17

abbrev pub SLOTS : ℕ
SLOTS = 136

-- ---- reading

abbrev pub enemy_at : ℕ → List ℕ → Enemy
enemy_at at l = record { x = word_at PLACE at l; y = word_at PLACE (at + PLACE) l; dir = byte_at (at + 16) l }

unfoldable pub enemies_at : ℕ → List ℕ → List Enemy
enemies_at at l = table MAX_ENEMIES (λ i. enemy_at (at + i * ENEMY) l)

unfoldable pub falling_at : ℕ → List ℕ → List Bool
falling_at at l = table AREA (λ i. flag_at (at + i) l)

unfoldable pub mine_of : List ℕ → Mine
mine_of l =
    record {
      grid = cells_at AREA 0 l;
      falling = falling_at 336 l;
      px = word_at PLACE 672 l;
      py = word_at PLACE 680 l;
      enemies = enemies_at 688 l;
      count = word_at PLACE 824 l;
      coins = word_at MARK 832 l;
      needed = word_at MARK 836 l;
      dead = flag_at 840 l;
      won = flag_at 841 l;
    }

-- ---- writing

abbrev pub enemy_bytes : Enemy → List ℕ
enemy_bytes e = pair_in PLACE e.x e.y ++ bytes_in 1 e.dir

unfoldable pub mine_bytes : Mine → ℕ → ℕ → List ℕ
mine_bytes m first second =
    m.grid
    ++ map bit m.falling
    ++ pair_in PLACE m.px m.py
    ++ flat enemy_bytes m.enemies
    ++ bytes_in PLACE m.count
    ++ pair_in MARK m.coins m.needed
    ++ pair_in 1 (bit m.dead) (bit m.won)
    ++ pair_in MARK first second
