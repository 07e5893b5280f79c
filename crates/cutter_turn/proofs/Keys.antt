-- The keys of a pass: the last direction is what is left of them; a turn of the loop. Assumes nothing.
use Rattle.std.specs.Prelude.{Option, Some, None}
use Rattle.std.specs.Option.{option_or}
use mathlib.Core.Bool.{true, false}
use mathlib.Core.List.{List, [], ◌∷◌}
use mathlib.Core.Path.{◌≡◌, refl, sym, ◌∙◌, ap}
use Prim.Native.Nat.{ℕ, ◌+◌}
use lib.Dec.{eqb}
use lib.ListN.{drop}
use Rattle.cutter_state.specs.declared.Cutter.{Cutter}
use Rattle.cutter_rules.specs.Step.{directed}
use Rattle.cutter_pass.specs.Pass.{played}
use Rattle.cutter_turn.specs.CodeKeys.{Plays}
use Rattle.controls.specs.Keys.{KEY_QUIT, dir_of, turned}
use Rattle.controls.proofs.Keys.{keys_more, keys_quit, keys_end}

-- a direction replaces the one before
pub replaced : (c : Cutter) (a b : Option ℕ) → turned directed (turned directed c b) a ≡ turned directed c (option_or a b)
replaced c None b = refl
replaced c (Some d) None = refl
replaced c (Some d) (Some e) = refl

-- one direction in place of the keys before i, for every state
abbrev pub Left : List ℕ → Option ℕ → ℕ → Type 0
Left keys last i = (c : Cutter) → played (turned directed c last) (drop i keys) ≡ played c keys

module _ (keys : List ℕ) (last : Option ℕ) (i : ℕ) (e : Left keys last i) where
  module _ {key : ℕ} (h : drop i keys ≡ key ∷ drop (i + 1) keys) where
    pub left_more : eqb key KEY_QUIT ≡ false → Left keys (option_or (dir_of key) last) (i + 1)
    left_more n c =
        ap (λ (s : Cutter). played s (drop (i + 1) keys)) (sym (replaced c (dir_of key) last))
        ∙ keys_more directed (turned directed c last) keys i (e c) h n

    pub left_quit : eqb key KEY_QUIT ≡ true → Plays keys (record { dir = last; quit = true })
    left_quit n c = keys_quit directed (turned directed c last) keys i (e c) h n

  pub left_end : drop i keys ≡ [] → Plays keys (record { dir = last; quit = false })
  left_end h c = keys_end directed (turned directed c last) keys i (e c) h
