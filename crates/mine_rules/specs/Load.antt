-- Block Mine: a text is read as a mine, and the one level.
use Rattle.std.specs.Prelude.{false, cond, List, [], ◌∷◌, ℕ, ◌+◌, ◌-◌, ◌*◌, ◌/◌, ◌%◌, ltb, eqb, get_or, set, replicate}
use Prim.Native.Char.{code}
use Prim.Native.String.{String}
use Prim.Native.String as S
use Rattle.laws.specs.Lists.{count, across}
use Rattle.mine_state.specs.declared.Mine.{Mine}
use Rattle.mine_state.specs.State.{W, AREA, MAX_ENEMIES, EMPTY, DIRT, WALL, BOULDER, COIN, EXIT, is_coin, blank_slot}
use Rattle.mine_state.specs.Change.{with_grid, with_player, with_creatures, state_of, with_needed}
use Rattle.controls.specs.Keys.{RIGHT}

-- the tile of a character; player and creatures stand on empty cells
abbrev pub tile_of : ℕ → ℕ
tile_of c =
    cond (eqb c (code "#")) WALL
    (cond (eqb c (code ".")) DIRT
    (cond (eqb c (code " ")) EMPTY
    (cond (eqb c (code "O")) BOULDER
    (cond (eqb c (code "$")) COIN
    (cond (eqb c (code "X")) EXIT
    (cond (eqb c (code "P")) EMPTY
    (cond (eqb c (code "E")) EMPTY WALL)))))))

-- one more creature at (x, y), direction 1, while there is a slot
abbrev pub with_one_more : Mine → ℕ → ℕ → Mine
with_one_more m x y =
    cond (ltb m.count MAX_ENEMIES)
    (with_creatures m (set m.enemies m.count (record { x = x; y = y; dir = RIGHT })) (m.count + 1))
    m

-- `P` is the player's start, `E` a creature's
abbrev pub settled : Mine → ℕ → ℕ → ℕ → Mine
settled m c x y = cond (eqb c (code "P")) (with_player m x y) (cond (eqb c (code "E")) (with_one_more m x y) m)

-- the character at the place i
unfoldable pub read_at : List ℕ → Mine → ℕ → Mine
read_at text m i =
    let c : ℕ = get_or text i 0 in
    settled (with_grid m (set m.grid i (tile_of c))) c (i % W) (i / W)

-- nothing read yet
abbrev pub unread : Mine
unread = state_of (replicate AREA WALL) (replicate AREA false) 1 1 (replicate MAX_ENEMIES blank_slot) 0 0 0 false false

-- three quarters of the coins, and one at least
abbrev pub quarters : ℕ → ℕ
quarters n = cond (eqb (n * 3 / 4) 0) 1 (n * 3 / 4)

abbrev pub asking : Mine → Mine
asking m = with_needed m (quarters (count is_coin m.grid))

-- the characters from the place i on
unfoldable pub read_from : List ℕ → ℕ → Mine → Mine
read_from text i m = across (read_at text) (AREA - i) i m

-- the mine that a text of 24 by 14 characters draws, read row by row
unfoldable pub mine_of : List ℕ → Mine
mine_of text = asking (read_from text 0 unread)

-- the numbers of the characters of some rows
abbrev pub chars : String → List ℕ → List ℕ
chars S.[] r = r
chars (S.◌∷◌ c s) r = code c ∷ chars s r

abbrev pub rows : List String → List ℕ
rows [] = []
rows (s ∷ ss) = chars s (rows ss)

abbrev pub LEVEL : List ℕ
LEVEL = rows (
    "########################"
    ∷ "#P..$....O......$...E..#"
    ∷ "#..OO..$..###..$..OO.$.#"
    ∷ "#.$..###.....$...###..$#"
    ∷ "#..$..O.$.###.$.O..$...#"
    ∷ "#.###...$..O.O..$..###.#"
    ∷ "#..$..OO.#.#..OO..$..$.#"
    ∷ "#$..$..$..$.$..$..$...O#"
    ∷ "#.###.###.###.###.###..#"
    ∷ "#..O...$...O...$..O..E.#"
    ∷ "#.$.$.$.$.$.$.$.$.$.$.$#"
    ∷ "#..#..#..#..#..#..#..#.#"
    ∷ "#..................$.X.#"
    ∷ "########################"
    ∷ [])

unfoldable pub loaded : Mine
loaded = mine_of LEVEL
