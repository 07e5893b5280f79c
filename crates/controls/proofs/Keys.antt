-- A key by its direction, and a turn of a loop over the keys of a pass. Assumes nothing.
use Rattle.std.specs.Prelude.{Some, None}
use mathlib.Core.Bool.{Bool, true, false, cond}
use mathlib.Core.List.{List, [], ◌∷◌}
use mathlib.Core.Path.{◌≡◌, refl}
use Prim.Native.Nat.{ℕ, ◌+◌}
use lib.Dec.{eqb}
use lib.ListN.{drop}
use Rattle.controls.specs.Keys.{UP, RIGHT, DOWN, LEFT, KEY_UP, KEY_DOWN, KEY_LEFT, KEY_RIGHT, KEY_QUIT, dir_of, turned, Played, keyed_by, played_by}

module _ {S : Type 0} (towards : S → ℕ → S) where
  by_tests : (s : S) (a b c e : Bool)
      → cond a (towards s UP) (cond b (towards s DOWN) (cond c (towards s LEFT) (cond e (towards s RIGHT) s)))
      ≡ turned towards s (cond a (Some UP) (cond b (Some DOWN) (cond c (Some LEFT) (cond e (Some RIGHT) None))))
  by_tests s true b c e = refl
  by_tests s false true c e = refl
  by_tests s false false true e = refl
  by_tests s false false false true = refl
  by_tests s false false false false = refl

  pub keyed-turned : (s : S) (key : ℕ) → keyed_by towards s key ≡ turned towards s (dir_of key)
  unfolding keyed_by
  keyed-turned s key = by_tests s (eqb key KEY_UP) (eqb key KEY_DOWN) (eqb key KEY_LEFT) (eqb key KEY_RIGHT)

  -- A loop over the keys: what is left of them makes R of the game.
  module _ (s : S) (keys : List ℕ) (i : ℕ) {R : Played S} (e : played_by towards s (drop i keys) ≡ R) where
    module _ {key : ℕ} (h : drop i keys ≡ key ∷ drop (i + 1) keys) where
      pub keys_more : eqb key KEY_QUIT ≡ false → played_by towards (turned towards s (dir_of key)) (drop (i + 1) keys) ≡ R
      unfolding played_by
      keys_more n = rw (h, n, keyed-turned s key) at e

      pub keys_quit : eqb key KEY_QUIT ≡ true → record { quit = true; game = s } ≡ R
      unfolding played_by
      keys_quit n = rw (h, n) at e

    pub keys_end : drop i keys ≡ [] → record { quit = false; game = s } ≡ R
    unfolding played_by
    keys_end h = rw h at e
