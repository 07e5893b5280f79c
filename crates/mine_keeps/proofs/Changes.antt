-- The changes that the rules are made of, each kept once. Assumes nothing.
use mathlib.Core.Bool.{Bool, true, false, ◌&&◌, not}
use mathlib.Core.List.{List}
use mathlib.Core.Path.{◌≡◌, refl, sym, ◌∙◌, ap}
use Prim.Native.Nat.{ℕ, ◌+◌, ◌-◌, ◌<◌, ◌≤◌}
use native.Mathlib.Omega.{arith}
use lib.ListN.{length, get_or, set, take, drop, length-set}
use lib.Seq.{take-set-lt, drop-set-lt}
use borrow.Author.Tests.{eqb-true, not-true}
use Rattle.laws.specs.Lists.{all, any, count}
use Rattle.laws.proofs.Lists.{all_at, all_set}
use Rattle.laws.proofs.Choice.{and_left, and_right}
use Rattle.laws.proofs.Counts.{count-clear}
use Rattle.found.specs.First.{nobody}
use Rattle.found.proofs.First.{nobody-any}
use Rattle.mine_state.specs.declared.Mine.{Mine}
use Rattle.mine_state.specs.declared.Enemy.{Enemy}
use Rattle.mine_state.specs.State.{AREA, MAX_ENEMIES, EMPTY, COIN, is_code, is_coin, is_boulder, place, code_at, empty_at, player_at, creatures}
use Rattle.mine_state.specs.State.{stands_at, first_at, free_at, purse, boulders}
use Rattle.mine_state.specs.Change.{with_grid, with_marks, with_player, with_creatures, with_creature, with_coins, killed, winner, with_cell}
use Rattle.mine_state.specs.WellFormed.{WellFormed, creature_ok, apart, is_blank}
use Rattle.mine_state.proofs.Cells.{free_inside, free_empty}
use Rattle.mine_rules.specs.Gravity.{without}
use Rattle.mine_keeps.specs.Kept.{Kept}
use Rattle.mine_keeps.proofs.Creatures.{apart-set}
use Rattle.mine_keeps.proofs.Gone.{gone-all, gone-apart, gone-rest}
use Rattle.mine_keeps.proofs.Grid.{empty_dug, creatures_dug, shifted_to, empty_shifted, creatures_shifted, shifted_count}

pub kept_self : {m : Mine} → WellFormed m → Kept m m
kept_self w = record { formed = w; coins = refl; stones = refl }

pub kept_then : {m s t : Mine} → Kept m s → Kept s t → Kept m t
kept_then a b = record { formed = b.formed; coins = b.coins ∙ a.coins; stones = b.stones ∙ a.stones }

-- who is free of others: neither player nor creature is there
module _ (s : Mine) (x y : ℕ) (f : free_at s x y ≡ true) where
  pub free_player : player_at s x y ≡ false
  unfolding free_at
  free_player =
      not-true (player_at s x y) (and_right (empty_at s.grid x y) (not (player_at s x y)) (and_left (empty_at s.grid x y && not (player_at s x y)) (nobody (first_at s x y)) f))

  pub free_nobody : any (stands_at x y) (creatures s) ≡ false
  unfolding free_at
  free_nobody =
      let n = and_right (empty_at s.grid x y && not (player_at s x y)) (nobody (first_at s x y)) f in
      not-true (any (stands_at x y) (creatures s)) (sym (nobody-any (stands_at x y) (creatures s)) ∙ n)

module _ {m s : Mine} (k : Kept m s) where
  abbrev w : WellFormed s
  w = k.formed

  -- marks, dead and won are free in value, and the player may stand on any empty cell
  kept_about : (f : List Bool) (x y : ℕ) (d v : Bool) → length f ≡ AREA → empty_at s.grid x y ≡ true
      → Kept m (record { grid = s.grid; falling = f; px = x; py = y; enemies = s.enemies; count = s.count; coins = s.coins; needed = s.needed; dead = d; won = v })
  kept_about f x y d v l e =
      record {
        formed = record {
          cells = w.cells;
          marks = l;
          codes = w.codes;
          player = e;
          slots = w.slots;
          few = w.few;
          each = w.each;
          distinct = w.distinct;
          rest = w.rest;
          coins = w.coins;
          asked = w.asked;
        };
        coins = k.coins;
        stones = k.stones;
      }

  pub kept-marks : (f : List Bool) → length f ≡ AREA → Kept m (with_marks s f)
  kept-marks f l = kept_about f s.px s.py s.dead s.won l w.player

  pub kept-killed : Kept m (killed s)
  kept-killed = kept_about s.falling s.px s.py true s.won w.marks w.player

  pub kept_won : Kept m (winner s)
  kept_won = kept_about s.falling s.px s.py s.dead true w.marks w.player

  pub kept-player : (x y : ℕ) → empty_at s.grid x y ≡ true → Kept m (with_player s x y)
  kept-player x y e = kept_about s.falling x y s.dead s.won w.marks e

  -- another grid and hand with the same coins and boulders, in which everyone still stands on an empty cell
  kept_grid : (g : List ℕ) (c : ℕ) → length g ≡ AREA → all is_code g ≡ true → empty_at g s.px s.py ≡ true → all (creature_ok g) (creatures s) ≡ true
      → c + count is_coin g ≡ purse s → count is_boulder g ≡ boulders s → Kept m (with_coins (with_grid s g) c)
  kept_grid g c l o p e a b =
      record {
        formed = record {
          cells = l;
          marks = w.marks;
          codes = o;
          player = p;
          slots = w.slots;
          few = w.few;
          each = e;
          distinct = w.distinct;
          rest = w.rest;
          coins = omega (arith, w.coins);
          asked = w.asked;
        };
        coins = a ∙ k.coins;
        stones = b ∙ k.stones;
      }

  -- a cell emptied, with c coins in the hand then
  kept_emptied : (p c : ℕ) → c + count is_coin (set s.grid p EMPTY) ≡ purse s → count is_boulder (set s.grid p EMPTY) ≡ boulders s
      → Kept m (with_coins (with_grid s (set s.grid p EMPTY)) c)
  kept_emptied p c a b =
      kept_grid (set s.grid p EMPTY) c (simp length-set w.cells) (all_set is_code s.grid p EMPTY w.codes refl) (empty_dug s.grid p s.px s.py w.player)
      (creatures_dug s.grid p (creatures s) w.each) a b

  -- a cell dug out that holds neither coin nor boulder
  pub kept_dug : (x y : ℕ) → is_coin (code_at s x y) ≡ false → is_boulder (code_at s x y) ≡ false → Kept m (with_cell s x y EMPTY)
  kept_dug x y c b =
      let dug : (f : ℕ → Bool) → f EMPTY ≡ false → f (code_at s x y) ≡ false → count f (set s.grid (place x y) EMPTY) ≡ count f s.grid =
      λ f z h. (let q : count f (set s.grid (place x y) EMPTY) + 0 ≡ count f s.grid = rw h at (count-clear f EMPTY z z s.grid (place x y)) in omega arith) in
      kept_emptied (place x y) s.coins (ap (λ (n : ℕ). s.coins + n) (dug is_coin refl c)) (dug is_boulder refl b)

  -- a coin of the map taken into the hand
  pub kept-collected : (x y : ℕ) → is_coin (code_at s x y) ≡ true → Kept m (with_coins (with_cell s x y EMPTY) (s.coins + 1))
  kept-collected x y c =
      let t : code_at s x y ≡ COIN = eqb-true (code_at s x y) COIN c in
      let a : count is_coin (set s.grid (place x y) EMPTY) + 1 ≡ count is_coin s.grid = rw t at (count-clear is_coin EMPTY refl refl s.grid (place x y)) in
      let b : count is_boulder (set s.grid (place x y) EMPTY) + 0 ≡ count is_boulder s.grid = rw t at (count-clear is_boulder EMPTY refl refl s.grid (place x y)) in
      kept_emptied (place x y) (s.coins + 1) (omega arith) (omega arith)

  -- what stands at (x, y) moved to a free cell
  pub kept_shifted : (x y nx ny : ℕ) → free_at s nx ny ≡ true → Kept m (with_grid s (shifted_to s.grid (place x y) nx ny))
  kept_shifted x y nx ny f =
      let g = s.grid in
      let i = place x y in
      let h = free_inside s nx ny f in
      let b : place nx ny < length g = omega (arith, w.cells) in
      let z = free_empty s nx ny f in
      kept_grid (shifted_to g i nx ny) s.coins (simp length-set w.cells)
      (all_set is_code (set g (place nx ny) (get_or g i EMPTY)) i EMPTY (all_set is_code g (place nx ny) (get_or g i EMPTY) w.codes (all_at is_code g i EMPTY w.codes refl)) refl)
      (empty_shifted g i nx ny h.0 s.px s.py (free_player s nx ny f) w.player)
      (creatures_shifted g i nx ny h.0 (creatures s) (free_nobody s nx ny f) w.each)
      (ap (λ (n : ℕ). s.coins + n) (shifted_count g i nx ny h.0 is_coin refl b z))
      (shifted_count g i nx ny h.0 is_boulder refl b z)

  -- other creatures on the same ground
  kept-creatures : (es : List Enemy) (n : ℕ) → length es ≡ MAX_ENEMIES → n ≤ MAX_ENEMIES → all (creature_ok s.grid) (take n es) ≡ true → apart (take n es) ≡ true
      → all is_blank (drop n es) ≡ true → Kept m (with_creatures s es n)
  kept-creatures es n l f a b c =
      record {
        formed = record {
          cells = w.cells;
          marks = w.marks;
          codes = w.codes;
          player = w.player;
          slots = l;
          few = f;
          each = a;
          distinct = b;
          rest = c;
          coins = w.coins;
          asked = w.asked;
        };
        coins = k.coins;
        stones = k.stones;
      }

  -- a creature that goes
  pub kept-without : (i : ℕ) → i < s.count → Kept m (without s i)
  unfolding without
  kept-without i h =
      let b : s.count ≤ length s.enemies = omega (arith, w.slots, w.few) in
      kept-creatures _ (s.count - 1) (simp length-set w.slots) (omega (arith, w.few))
      (gone-all s.enemies s.count i h b (creature_ok s.grid) w.each)
      (gone-apart s.enemies s.count i h b w.distinct)
      (gone-rest s.enemies s.count i h b w.rest)

  -- a creature on another empty cell, where no creature is
  pub kept-creature : (i : ℕ) (e : Enemy) → i < s.count → creature_ok s.grid e ≡ true → any (stands_at e.x e.y) (creatures s) ≡ false → Kept m (with_creature s i e)
  kept-creature i e h o n =
      let t = take-set-lt s.count s.enemies i e h in
      kept-creatures (set s.enemies i e) s.count (simp length-set w.slots) w.few
      (rw t (all_set (creature_ok s.grid) (creatures s) i e w.each o))
      (rw t (apart-set (creatures s) i e w.distinct n))
      (rw (drop-set-lt s.count s.enemies i e h) w.rest)
