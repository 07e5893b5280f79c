-- Directions and keys, as both games take them.
use Rattle.std.specs.Prelude.{Bool, true, false, cond, List, [], ◌∷◌, ℕ, eqb, Option, Some, None}

-- 0 up, 1 right, 2 down, 3 left
abbrev pub UP : ℕ
UP = 0

abbrev pub RIGHT : ℕ
RIGHT = 1

abbrev pub DOWN : ℕ
DOWN = 2

abbrev pub LEFT : ℕ
LEFT = 3

-- 5, 8, 7, 9 are up, down, left, right; 10 quits
abbrev pub KEY_UP : ℕ
KEY_UP = 5

abbrev pub KEY_DOWN : ℕ
KEY_DOWN = 8

abbrev pub KEY_LEFT : ℕ
KEY_LEFT = 7

abbrev pub KEY_RIGHT : ℕ
KEY_RIGHT = 9

abbrev pub KEY_QUIT : ℕ
KEY_QUIT = 10

-- the direction of a key, where it gives one
abbrev pub dir_of : ℕ → Option ℕ
dir_of key =
    cond (eqb key KEY_UP) (Some UP)
    (cond (eqb key KEY_DOWN) (Some DOWN)
    (cond (eqb key KEY_LEFT) (Some LEFT)
    (cond (eqb key KEY_RIGHT) (Some RIGHT) None)))

-- a game after the keys of a pass, and whether one of them quit
pub record Played (S : Type 0) : Type 0 where
  pub quit : Bool
  pub game : S

module _ {S : Type 0} (towards : S → ℕ → S) where
  -- a game after a direction, or without one
  abbrev pub turned : S → Option ℕ → S
  turned s None = s
  turned s (Some d) = towards s d

  -- a key gives its direction; others are ignored
  unfoldable pub keyed_by : S → ℕ → S
  keyed_by s key =
      cond (eqb key KEY_UP) (towards s UP)
      (cond (eqb key KEY_DOWN) (towards s DOWN)
      (cond (eqb key KEY_LEFT) (towards s LEFT)
      (cond (eqb key KEY_RIGHT) (towards s RIGHT) s)))

  -- all keys in order; 10 quits at once, earlier keys standing
  unfoldable pub played_by : S → List ℕ → Played S
  played_by s [] = record { quit = false; game = s }
  played_by s (key ∷ keys) = cond (eqb key KEY_QUIT) (record { quit = true; game = s }) (played_by (keyed_by s key) keys)
