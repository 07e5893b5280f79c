-- Block Mine: the creature tick.
use Rattle.std.specs.Prelude.{cond, ◌&&◌, List, [], ◌∷◌, ℕ, ◌+◌, ◌%◌, get_or, Option, Some, None}
use Rattle.laws.specs.Lists.{across}
use Rattle.found.specs.First.{nobody}
use Rattle.mine_state.specs.declared.Mine.{Mine}
use Rattle.mine_state.specs.declared.Enemy.{Enemy}
use Rattle.mine_state.specs.State.{empty_at, first_at, player_at, blank_slot}
use Rattle.mine_state.specs.Change.{with_creature, killed}
use Rattle.mine_rules.specs.Ways.{next_cell}

-- a cell on the grid that is empty and has no other creature; the direction becomes the one taken
abbrev pub goes_to : Mine → ℕ → Option (ℕ × ℕ) → Option Enemy
goes_to m d (Some (x, y)) = cond (empty_at m.grid x y && nobody (first_at m x y)) (Some (record { x = x; y = y; dir = d })) None
goes_to m d None = None

unfoldable pub way_of : Mine → Enemy → ℕ → Option Enemy
way_of m e d = goes_to m d (next_cell d e.x e.y)

-- left, straight, right, back, as turns from the direction
abbrev pub turns : List ℕ
turns = 3 ∷ 0 ∷ 1 ∷ 2 ∷ []

abbrev pub or_else : Option Enemy → Option Enemy → Option Enemy
or_else (Some e) s = Some e
or_else None s = s

-- the first of the turns that can be taken
abbrev pub chosen : Mine → Enemy → List ℕ → Option Enemy
chosen m e [] = None
chosen m e (t ∷ ts) = or_else (way_of m e ((e.dir + t) % 4)) (chosen m e ts)

-- reaching the player sets dead
abbrev pub caught : Mine → Enemy → Mine
caught m e = cond (player_at m e.x e.y) (killed m) m

-- with no such cell nothing changes
abbrev pub creature_stepped : Mine → ℕ → Option Enemy → Mine
creature_stepped m i (Some e) = caught (with_creature m i e) e
creature_stepped m i None = m

unfoldable pub tick_one : Mine → ℕ → Mine
tick_one m i = creature_stepped m i (chosen m (get_or m.enemies i blank_slot) turns)

-- in list order; the tick goes on
unfoldable pub enemies_moved : Mine → Mine
enemies_moved m = across tick_one m.count 0 m
