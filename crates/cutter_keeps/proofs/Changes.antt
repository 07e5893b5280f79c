-- The changes that leave the grid as it is, each kept once, and changes one after the other. Assumes nothing.
use mathlib.Core.Bool.{Bool, true}
use mathlib.Core.List.{List}
use mathlib.Core.Path.{◌≡◌, refl, ◌∙◌}
use Prim.Native.Nat.{ℕ, ◌≤◌}
use native.Mathlib.Omega.{arith}
use lib.IntN.{ℤ}
use lib.ListN.{length, take, drop}
use Rattle.laws.specs.Lists.{all}
use Rattle.cutter_ground.specs.declared.Mover.{Mover}
use Rattle.cutter_state.specs.declared.Cutter.{Cutter}
use Rattle.cutter_state.specs.State.{holds_at}
use Rattle.cutter_state.specs.Change.{with_player, with_direction, with_creatures, with_level, with_lives, with_dead, with_won}
use Rattle.cutter_state.specs.WellFormed.{MAX_LIVES, MAX_LEVEL, footing, direction_ok, mover_ok, is_blank, WellFormed}
use Rattle.cutter_keeps.specs.Kept.{Kept, Erased, Closed}
use Rattle.cutter_ground.specs.Movers.{MAX_ENEMIES}

pub kept_self : {c : Cutter} → WellFormed c → Kept c c
kept_self w = record { formed = w; black = refl; claimed = refl; line = refl; creatures = refl }

pub kept_then : {b c s : Cutter} → Kept b c → Kept c s → Kept b s
kept_then j k =
    record {
      formed = k.formed;
      black = k.black ∙ j.black;
      claimed = k.claimed ∙ j.claimed;
      line = k.line ∙ j.line;
      creatures = k.creatures ∙ j.creatures;
    }

pub erased_then : {b c s : Cutter} → Erased b c → Kept c s → Erased b s
erased_then j k =
    record {
      formed = k.formed;
      black = k.black ∙ j.black;
      claimed = k.claimed ∙ j.claimed;
      line = k.line ∙ j.line;
      creatures = k.creatures ∙ j.creatures;
    }

pub closed_then : {b c s : Cutter} {taken gone : ℕ} → Closed b c taken gone → Kept c s → Closed b s taken gone
closed_then j k =
    record {
      formed = k.formed;
      black = omega (arith, k.black, j.black);
      claimed = k.claimed ∙ j.claimed;
      line = k.line ∙ j.line;
      creatures = omega (arith, k.creatures, j.creatures);
    }

module _ {c s : Cutter} (k : Kept c s) where
  abbrev w : WellFormed s
  w = k.formed

  -- dead and won are free in value; the rest of what is not the grid, within its bounds
  kept_about : (x y : ℕ) (a b : ℤ) (n l : ℕ) (d v : Bool) → holds_at s.grid (footing s.trailing) x y ≡ true → direction_ok a b ≡ true → l ≤ MAX_LIVES
      → (1 ≤ n) × (n ≤ MAX_LEVEL)
      → Kept c (record {
        grid = s.grid;
        px = x;
        py = y;
        dx = a;
        dy = b;
        trailing = s.trailing;
        enemies = s.enemies;
        count = s.count;
        level = n;
        lives = l;
        dead = d;
        won_level = v;
      })
  kept_about x y a b n l d v p o h q =
      record {
        formed = record {
          cells = w.cells;
          codes = w.codes;
          rows = w.rows;
          columns = w.columns;
          line = w.line;
          player = p;
          direction = o;
          slots = w.slots;
          few = w.few;
          each = w.each;
          rest = w.rest;
          lives = h;
          level = q;
        };
        black = k.black;
        claimed = k.claimed;
        line = k.line;
        creatures = k.creatures;
      }

  -- the player on another cell of the kind that it stands on
  pub kept-player : (x y : ℕ) → holds_at s.grid (footing s.trailing) x y ≡ true → Kept c (with_player s x y)
  kept-player x y p = kept_about x y s.dx s.dy s.level s.lives s.dead s.won_level p w.direction w.lives w.level

  pub kept-direction : (a b : ℤ) → direction_ok a b ≡ true → Kept c (with_direction s a b)
  kept-direction a b o = kept_about s.px s.py a b s.level s.lives s.dead s.won_level w.player o w.lives w.level

  pub kept-level : (n : ℕ) → 1 ≤ n → n ≤ MAX_LEVEL → Kept c (with_level s n)
  kept-level n h l = kept_about s.px s.py s.dx s.dy n s.lives s.dead s.won_level w.player w.direction w.lives (h, l)

  pub kept-lives : (n : ℕ) → n ≤ MAX_LIVES → Kept c (with_lives s n)
  kept-lives n h = kept_about s.px s.py s.dx s.dy s.level n s.dead s.won_level w.player w.direction h w.level

  pub kept_dead : (b : Bool) → Kept c (with_dead s b)
  kept_dead b = kept_about s.px s.py s.dx s.dy s.level s.lives b s.won_level w.player w.direction w.lives w.level

  pub kept_won : (b : Bool) → Kept c (with_won s b)
  kept_won b = kept_about s.px s.py s.dx s.dy s.level s.lives s.dead b w.player w.direction w.lives w.level

  -- as many creatures, each right by itself
  pub kept-creatures : (es : List Mover) → length es ≡ MAX_ENEMIES → all (mover_ok s.grid) (take s.count es) ≡ true → all is_blank (drop s.count es) ≡ true
      → Kept c (with_creatures s es s.count)
  kept-creatures es l a b =
      record {
        formed = record {
          cells = w.cells;
          codes = w.codes;
          rows = w.rows;
          columns = w.columns;
          line = w.line;
          player = w.player;
          direction = w.direction;
          slots = l;
          few = w.few;
          each = a;
          rest = b;
          lives = w.lives;
          level = w.level;
        };
        black = k.black;
        claimed = k.claimed;
        line = k.line;
        creatures = k.creatures;
      }
