-- Single pixels of Block Mine's picture. Computed; assumes nothing.
use mathlib.Core.Bool.{true, false}
use mathlib.Core.List.{◌∷◌}
use mathlib.Core.Path.{◌≡◌, refl}
use Prim.Native.Nat.{ℕ}
use lib.ListN.{replicate}
use Rattle.mine_state.specs.declared.Mine.{Mine}
use Rattle.mine_state.specs.State.{AREA, EMPTY, EXIT, blank_slot}
use Rattle.mine_picture.specs.Art.{art_of}
use Rattle.mine_picture.specs.Picture.{left, cell_lit, mine_lit}

-- all cells of one code, the player in a column of row 1, a creature at (1,1), so many coins in hand, 2 needed
abbrev mine_of : ℕ → ℕ → ℕ → Mine
mine_of t x coins = record {
  grid = replicate AREA t;
  falling = replicate AREA false;
  px = x;
  py = 1;
  enemies = record { x = 1; y = 1; dir = 0 } ∷ replicate 7 blank_slot;
  count = 1;
  coins = coins;
  needed = 2;
  dead = false;
  won = false;
}

pub record Pixels : Type 0 where
  -- the cell (1,1), from the pixel (8,16): the creature's corner under the player, the player's hair and heel
  pub creature_under : mine_lit (mine_of EMPTY 1 0) 8 16 ≡ true
  pub hair : mine_lit (mine_of EMPTY 1 0) 11 16 ≡ true
  pub heel : mine_lit (mine_of EMPTY 1 0) 10 23 ≡ true
  pub no_heel_above : mine_lit (mine_of EMPTY 1 0) 10 16 ≡ false
  pub blank_page : mine_lit (mine_of EXIT 1 0) 0 7 ≡ false
  -- the window's left at either end
  pub leftmost : left (mine_of EMPTY 0 0) ≡ 0
  pub rightmost : left (mine_of EMPTY 23 0) ≡ 8
  -- the open exit has ink where the shut one has none
  pub shut : mine_lit (mine_of EXIT 1 1) 2 9 ≡ false
  pub opened : mine_lit (mine_of EXIT 1 2) 2 9 ≡ true

pub pixels : Pixels
unfolding mine_lit cell_lit art_of
pixels = record { creature_under = refl; hair = refl; heel = refl; no_heel_above = refl; blank_page = refl; leftmost = refl; rightmost = refl; shut = refl; opened = refl }
