-- A tick keeps a state sound. Assumes nothing.
use mathlib.Core.Bool.{Bool, true, false}
use mathlib.Core.List.{List}
use mathlib.Core.Path.{◌≡◌, refl}
use Prim.Native.Nat.{ℕ, ◌+◌, ◌-◌, ◌<◌, ◌≤◌}
use native.Mathlib.Omega.{arith}
use lib.ListN.{length, get_or, set, length-set}
use Rattle.laws.specs.Lists.{bit, count}
use Rattle.laws.proofs.Lists.{all_at, all_set}
use Rattle.laws.proofs.Counts.{count-clear, count_set, get_or_set_kept_lem}
use Rattle.mine_state.specs.declared.Mine.{Mine}
use Rattle.mine_state.specs.State.{W, H, AREA, EMPTY, is_coin, place, code_at, blank_slot}
use Rattle.mine_state.specs.Change.{with_grid, with_marks, killed}
use Rattle.mine_state.proofs.Cells.{empty-inside, empty_code, free_inside, free_empty}
use Rattle.mine_rules.specs.Gravity.{carried, rested, without, coin_collected}
use Rattle.mine_rules.proofs.GravityKeeps.{Keeps}
use Rattle.mine_state.specs.CodeState.{on_map, Sound}

-- grid and marks changed, the coins no more
sound-cells : {m : Mine} → Sound m → (g : List ℕ) (f : List Bool) → length g ≡ AREA → length f ≡ AREA → m.coins + count is_coin g ≤ AREA → Sound (with_marks (with_grid m g) f)
sound-cells s g f a b e = record { cells = a; marks = b; slots = s.slots; few = s.few; placed = s.placed; home = s.home; coins = e }

sound-carried : (m : Mine) (x y nx ny : ℕ) → (nx < W) × (ny < H) → code_at m nx ny ≡ EMPTY → Sound m → Sound (carried m x y nx ny)
unfolding carried
sound-carried m x y nx ny h e s =
    let g = m.grid in
    let i = place x y in
    let j = place nx ny in
    let t = get_or g i EMPTY in
    let a = count_set is_coin g j t EMPTY (omega (arith, s.cells, h)) in
    let a' : count is_coin (set g j t) + 0 ≡ count is_coin g + bit (is_coin t) = rw e at a in
    let b = count-clear is_coin EMPTY refl refl (set g j t) i in
    let b' : count is_coin (set (set g j t) i EMPTY) + bit (is_coin t) ≡ count is_coin (set g j t) = rw (get_or_set_kept_lem g i j EMPTY t refl) at b in
    sound-cells s (set (set g j t) i EMPTY) (set (set m.falling j true) i false) (simp length-set s.cells) (simp length-set s.marks) (omega (arith, s.coins))

sound-rested : (m : Mine) (x y : ℕ) → Sound m → Sound (rested m x y)
unfolding rested
sound-rested m x y s = sound-cells s m.grid (set m.falling (place x y) false) s.cells (simp length-set s.marks) s.coins

sound-without : (m : Mine) (i : ℕ) → Sound m → Sound (without m i)
unfolding without
sound-without m i s =
    let l = m.enemies in
    let last = m.count - 1 in
    let e = get_or l last blank_slot in
    let p = all_set on_map (set l i e) last blank_slot (all_set on_map l i e s.placed (all_at on_map l last blank_slot s.placed refl)) refl in
    record { cells = s.cells; marks = s.marks; slots = simp length-set s.slots; few = omega (arith, s.few); placed = p; home = s.home; coins = s.coins }

-- a coin that is collected moves from the map into the hand
sound-collected : (m : Mine) (x y : ℕ) → is_coin (code_at m x y) ≡ true → Sound m → Sound (coin_collected m x y)
sound-collected m x y e s =
    let b = count-clear is_coin EMPTY refl refl m.grid (place x y) in
    let b' : count is_coin (set m.grid (place x y) EMPTY) + 1 ≡ count is_coin m.grid = rw e at b in
    record { cells = simp length-set s.cells; marks = s.marks; slots = s.slots; few = s.few; placed = s.placed; home = s.home; coins = omega (arith, s.coins) }

pub sound-killed : (m : Mine) → Sound m → Sound (killed m)
sound-killed m s = record { cells = s.cells; marks = s.marks; slots = s.slots; few = s.few; placed = s.placed; home = s.home; coins = s.coins }

sound_squashed : (m : Mine) (x y nx ny i : ℕ) → (nx < W) × (ny < H) → code_at m nx ny ≡ EMPTY → Sound m → Sound (carried (without m i) x y nx ny)
unfolding without
sound_squashed m x y nx ny i h e s = sound-carried (without m i) x y nx ny h e (sound-without m i s)

pub sound-keeps : Keeps Sound
sound-keeps =
    record {
      rests = sound-rested;
      moves = λ m x y nx ny _ f s. sound-carried m x y nx ny (free_inside m nx ny f) (free_empty m nx ny f) s;
      collects = sound-collected;
      kills = sound-killed;
      squashes = λ m x y i _ _ e _ _ s. sound_squashed m x y x (y + 1) i (empty-inside m.grid x (y + 1) e) (empty_code m.grid x (y + 1) e) s;
    }
