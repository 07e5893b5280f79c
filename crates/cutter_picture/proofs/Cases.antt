-- Single pixels of Block Cutter's picture. Computed; assumes nothing.
use mathlib.Core.Bool.{true, false, xor}
use mathlib.Core.List.{◌∷◌}
use mathlib.Core.Path.{◌≡◌, refl}
use Prim.Native.Nat.{◌-◌}
use lib.IntN.{pos}
use lib.ListN.{replicate}
use Rattle.cutter_ground.specs.Cells.{CN, CB_BLACK, CB_FILLED}
use Rattle.cutter_state.specs.declared.Cutter.{Cutter}
use Rattle.cutter_picture.specs.Picture.{cut_lit}

-- claimed ground but for the first cell, the player at (1,0), a creature at (0,0), two lives
abbrev ground : Cutter
ground = record {
  grid = CB_BLACK ∷ replicate (CN - 1) CB_FILLED;
  px = 1;
  py = 0;
  dx = pos 0;
  dy = pos 0;
  trailing = false;
  enemies = replicate 16 (record { x = 0; y = 0; vx = pos 1; vy = pos 1 });
  count = 1;
  level = 1;
  lives = 2;
  dead = false;
  won_level = false;
}

pub record Pixels : Type 0 where
  -- a creature is one pixel of its cell
  pub creature : cut_lit ground 0 0 ≡ true
  pub beside : cut_lit ground 1 0 ≡ false
  -- claimed ground under the player is inverted, and the first life cleared after that
  pub player : cut_lit ground 3 1 ≡ false
  pub first_life : cut_lit ground 2 0 ≡ false
  pub second_life : cut_lit ground 5 0 ≡ false
  pub claimed : cut_lit ground 4 0 ≡ true

pub pixels : Pixels
unfolding cut_lit xor
pixels = record { creature = refl; beside = refl; player = refl; first_life = refl; second_life = refl; claimed = refl }
