-- What a move's numbers make of a state, rule by rule. Assumes nothing.
use Rattle.std.specs.Prelude.{Option, Some, None, is_some}
use mathlib.Core.Bool.{Bool, true, cond}
use mathlib.Core.List.{List}
use mathlib.Core.Path.{◌≡◌, refl, sym, ap, ◌∙◌}
use Prim.Native.Nat.{ℕ, ◌+◌}
use lib.ListN.{set}
use lib.Seq.{set-get_or}
use Rattle.mine_state.specs.declared.Mine.{Mine}
use Rattle.mine_state.specs.State.{EMPTY, BOULDER, place, empty_at, code_in, first_at, free_at}
use Rattle.mine_state.specs.Change.{with_grid, with_cell, entered, killed, winner}
use Rattle.mine_state.proofs.Cells.{empty_code, empty-inside}
use Rattle.found.specs.declared.Found.{Found}
use Rattle.mine_rules.specs.Ways.{next_cell}
use Rattle.mine_rules.specs.Move.{collected, met, meets, moved_to, moved}
use Rattle.mine_apart.specs.CodeApart.{first_spot, free_spot, Stand}
use Rattle.mine_apart.proofs.Places.{first_spot_lem, free_spot_lem}
use Rattle.mine_moves.specs.declared.moves.Move.{Move}
use Rattle.mine_moves.specs.CodeSteps.{gone, applied, Plays}
use Rattle.mine_rules.specs.CodeWays.{OnGrid}

-- the same with other coins, dead, won, or a boulder at a cell
abbrev pub richer : Move → ℕ → Move
richer s n = let p = s.player in record { player = record { px = p.px; py = p.py; coins = n; needed = p.needed; dead = p.dead; won = p.won }; at = s.at; code = s.code }

abbrev pub dying : Move → Move
dying s = let p = s.player in record { player = record { px = p.px; py = p.py; coins = p.coins; needed = p.needed; dead = true; won = p.won }; at = s.at; code = s.code }

abbrev pub winning : Move → Move
winning s = let p = s.player in record { player = record { px = p.px; py = p.py; coins = p.coins; needed = p.needed; dead = p.dead; won = true }; at = s.at; code = s.code }

abbrev pub pushing : Move → ℕ → ℕ → Move
pushing s bx by = record { player = s.player; at = place bx by; code = BOULDER }

-- the player's own cell is empty already
kept : (m : Mine) → empty_at m.grid m.px m.py ≡ true → set m.grid (place m.px m.py) EMPTY ≡ m.grid
kept m e = ap (set m.grid (place m.px m.py)) (sym (empty_code m.grid m.px m.py e)) ∙ set-get_or m.grid (place m.px m.py) EMPTY

-- somebody ahead kills, and else what is there is met
meets_is : (m : Mine) (d x y : ℕ) (o : Option Found) → meets m d x y o ≡ cond (is_some o) (killed m) (met m d x y)
meets_is m d x y (Some f) = refl
meets_is m d x y None = refl

module _ {m : Mine} {g spots : List ℕ} {s : Move} (p : Plays m g spots s) where
  own : set m.grid (place m.px m.py) EMPTY ≡ m.grid
  own = kept m p.empty

  twice : set (set m.grid (place m.px m.py) EMPTY) (place m.px m.py) EMPTY ≡ m.grid
  twice = ap (λ (l : List ℕ). set l (place m.px m.py) EMPTY) own ∙ own

  -- nothing; dead; won
  pub stayed : applied m s ≡ m
  stayed = ap (applied m) p.stays ∙ ap (with_grid m) twice

  pub died : applied m (dying s) ≡ killed m
  died = ap (λ (t : Move). applied m (dying t)) p.stays ∙ ap (λ (l : List ℕ). killed (with_grid m l)) twice

  pub won_it : applied m (winning s) ≡ winner m
  won_it = ap (λ (t : Move). applied m (winning t)) p.stays ∙ ap (λ (l : List ℕ). winner (with_grid m l)) twice

  -- dug and entered, with a coin or without
  pub went : (x y : ℕ) → applied m (gone s x y) ≡ entered m x y
  went x y = ap (λ (t : Move). applied m (gone t x y)) p.stays ∙ ap (λ (l : List ℕ). entered (with_grid m l) x y) own

  pub took : (x y : ℕ) → applied m (richer (gone s x y) (s.player.coins + 1)) ≡ collected m x y
  took x y = ap (λ (t : Move). applied m (richer (gone t x y) (t.player.coins + 1))) p.stays ∙ ap (λ (l : List ℕ). collected (with_grid m l) x y) own

  -- entered, with a boulder in the cell beyond
  pub shoved : (x y bx by : ℕ) → applied m (pushing (gone s x y) bx by) ≡ entered (with_cell m bx by BOULDER) x y
  shoved x y bx by = ap (λ (t : Move). applied m (pushing (gone t x y) bx by)) p.stays

  -- who is there, and whether a cell is free, by the lent grid and places
  pub asked : (x y : ℕ) → OnGrid x y → first_spot (place x y) spots ≡ first_at m x y
  asked x y o = first_spot_lem m p.spotted x y o.across o.down

  pub code : (x y : ℕ) → code_in m.grid x y ≡ code_in g x y
  code x y = ap (λ (l : List ℕ). code_in l x y) p.cells

  everyone : Stand m spots s.at
  everyone = record { spotted = p.spotted; home = (empty-inside m.grid m.px m.py p.empty).0; you = ap (λ (t : Move). t.at) p.stays }

  pub freed : (x y : ℕ) → free_at m x y ≡ free_spot g spots s.at x y
  freed x y = sym (free_spot_lem everyone x y) ∙ ap (λ (l : List ℕ). free_spot l spots s.at x y) p.cells

  -- the step off the grid, and to a cell of it
  ahead : (d : ℕ) {a : Option (ℕ × ℕ)} → next_cell d s.player.px s.player.py ≡ a → moved m d ≡ moved_to m d a
  unfolding moved
  ahead d e = ap (moved_to m d) (ap (λ (t : Move). next_cell d t.player.px t.player.py) (sym p.stays) ∙ e)

  pub steps_off : (d : ℕ) → next_cell d s.player.px s.player.py ≡ None → m ≡ moved m d
  steps_off d e = sym (ahead d e)

  pub steps_to : (d x y : ℕ) {b : Bool} → OnGrid x y → next_cell d s.player.px s.player.py ≡ Some (x, y) → is_some (first_spot (place x y) spots) ≡ b
      → cond b (killed m) (met m d x y) ≡ moved m d
  steps_to d x y o e f =
      sym (
      ahead d e
      ∙ ap (meets m d x y) (sym (asked x y o))
      ∙ meets_is m d x y (first_spot (place x y) spots)
      ∙ ap (λ (b : Bool). cond b (killed m) (met m d x y)) f
      )
