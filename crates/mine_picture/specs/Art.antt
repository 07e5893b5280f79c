-- Block Mine's tile art: one byte per row, its highest bit leftmost.
use Rattle.std.specs.Prelude.{Bool, cond, List, [], ◌∷◌, ℕ, eqb}
use Rattle.mine_state.specs.State.{DIRT, WALL, BOULDER, COIN, EXIT}

abbrev pub DIRT_PAT : List ℕ
DIRT_PAT = 0xAA ∷ 0x55 ∷ 0xAA ∷ 0x55 ∷ 0xAA ∷ 0x55 ∷ 0xAA ∷ 0x55 ∷ []

abbrev pub WALL_PAT : List ℕ
WALL_PAT = 0xFF ∷ 0x88 ∷ 0x88 ∷ 0xFF ∷ 0x22 ∷ 0x22 ∷ 0xFF ∷ 0x88 ∷ []

abbrev pub BOULDER_PAT : List ℕ
BOULDER_PAT = 0x3C ∷ 0x7E ∷ 0xFF ∷ 0xFF ∷ 0xFF ∷ 0xFF ∷ 0x7E ∷ 0x3C ∷ []

abbrev pub COIN_PAT : List ℕ
COIN_PAT = 0x18 ∷ 0x24 ∷ 0x42 ∷ 0x81 ∷ 0x81 ∷ 0x42 ∷ 0x24 ∷ 0x18 ∷ []

abbrev pub EXIT_PAT : List ℕ
EXIT_PAT = 0xFF ∷ 0x81 ∷ 0x81 ∷ 0x81 ∷ 0x81 ∷ 0x81 ∷ 0x81 ∷ 0xFF ∷ []

abbrev pub EXIT_OPEN_PAT : List ℕ
EXIT_OPEN_PAT = 0xFF ∷ 0xBD ∷ 0xA5 ∷ 0x99 ∷ 0x99 ∷ 0xA5 ∷ 0xBD ∷ 0xFF ∷ []

abbrev pub PLAYER_PAT : List ℕ
PLAYER_PAT = 0x18 ∷ 0x18 ∷ 0x3C ∷ 0x7E ∷ 0x18 ∷ 0x18 ∷ 0x24 ∷ 0x24 ∷ []

abbrev pub ENEMY_PAT : List ℕ
ENEMY_PAT = 0x81 ∷ 0x5A ∷ 0x3C ∷ 0x7E ∷ 0x7E ∷ 0x3C ∷ 0x5A ∷ 0x81 ∷ []

abbrev pub EMPTY_PAT : List ℕ
EMPTY_PAT = 0 ∷ 0 ∷ 0 ∷ 0 ∷ 0 ∷ 0 ∷ 0 ∷ 0 ∷ []

-- the open exit or the shut one
abbrev pub exit_art : Bool → List ℕ
exit_art is_open = cond is_open EXIT_OPEN_PAT EXIT_PAT

-- the art of a cell's code
unfoldable pub art_of : ℕ → Bool → List ℕ
art_of code is_open =
    cond (eqb code DIRT) DIRT_PAT
    (cond (eqb code WALL) WALL_PAT
    (cond (eqb code BOULDER) BOULDER_PAT
    (cond (eqb code COIN) COIN_PAT
    (cond (eqb code EXIT) (exit_art is_open) EMPTY_PAT))))
