-- A state taken apart, after the keys and after gravity, and a pass in which nothing is due. Assumes nothing.
use mathlib.Core.Bool.{Bool, false, cond, ◌||◌}
use mathlib.Core.List.{List}
use mathlib.Core.Path.{◌≡◌, sym, ◌∙◌, ap, subst}
use Prim.Native.Nat.{ℕ}
use Rattle.laws.proofs.Choice.{or_left, or_right}
use Rattle.refusal.specs.Refusal.{NONE}
use Rattle.answer.specs.declared.Answer.TheVariants.{GoingOn}
use Rattle.pace.specs.declared.Ticks.{Ticks}
use Rattle.pace.specs.Pace.{mark_after, both_ticks}
use Rattle.mine_state.specs.declared.Mine.{Mine}
use Rattle.mine_state.specs.declared.Enemy.{Enemy}
use Rattle.mine_state.specs.WellFormed.{WellFormed}
use Rattle.mine_state.proofs.Facts.{sound}
use Rattle.mine_rules.specs.Gravity.{gravity_of}
use Rattle.mine_apart.specs.declared.Parts.{Parts}
use Rattle.mine_apart.specs.CodeApart.{parted, joined}
use Rattle.mine_apart.proofs.Places.{whole_again, spotted_of, apart_of}
use Rattle.mine_moves.specs.CodeSteps.{player_of, playing, Walkers}
use Rattle.mine_fall.specs.declared.Fallen.{Fallen}
use Rattle.mine_fall.specs.CodePlaces.{whole, Falling, Dropped}
use Rattle.mine_fall.proofs.Parts.{numbers, sound-whole}
use Rattle.mine_pass.specs.Pass.{GRAVITY_CYCLES, ENEMY_CYCLES, played, still, after_keys}
use Rattle.mine_pass.proofs.Answers.{after_ticks}
use Rattle.mine_pass.proofs.Keys.{keys_kept}
use Rattle.mine_pass.proofs.Kept.{fallen_kept}
use Rattle.mine_turn.specs.declared.Pressed.{Pressed}
use Rattle.mine_turn.specs.CodeParts.{Ready, Plays}
use Rattle.controls.specs.Keys.{Played}

-- a state whose creatures are taken apart
module _ (m : Mine) (w : WellFormed m) {r : Parts} (e : r ≡ parted m.enemies m.count) where
  pub ready : Ready m.grid r.spots (player_of m)
  ready =
      record { marks = m.falling; them = m.enemies; many = m.count; slots = (apart_of m w e).slots; spotted = spotted_of m w e; formed = w }

  -- after the keys
  module _ (keys g : List ℕ) (q : Pressed) (k : Plays m.grid r.spots (player_of m) keys g q) where
    abbrev pub keyed_game : Mine
    keyed_game = playing m.falling g m.enemies m.count q.player

    pub keyed_state : record { quit = q.quit; game = keyed_game } ≡ played m keys
    keyed_state = sym (k m.falling m.enemies m.count (spotted_of m w e))

    keyed-formed : WellFormed keyed_game
    keyed-formed = subst (λ (p : Played Mine). WellFormed p.game) (sym keyed_state) (keys_kept m keys w).formed

    abbrev falls : Fallen
    falls = numbers m.count q.player.coins q.player.dead

    pub falling : Falling g m.falling r.spots r.dirs falls q.player.px q.player.py
    falling = record { parts = apart_of m w e; sound = λ m'. sound-whole keyed_game m' (whole_again m w e) (sound keyed_game keyed-formed) }

    -- and after gravity, where that is due
    module _ (due : Bool) (g' : List ℕ) (f' : List Bool) (spots ds : List ℕ) (s : Fallen)
        (d : Dropped (λ (t : Mine). cond due (gravity_of t) t) q.player.px q.player.py g m.falling r.spots r.dirs falls g' f' spots ds s) where
      abbrev pub fallen_game : Mine
      fallen_game = whole keyed_game q.player.px q.player.py g' f' (joined s.count spots ds) s

      abbrev before : List Enemy → Mine
      before es = whole keyed_game q.player.px q.player.py g m.falling es falls

      pub fallen_state : fallen_game ≡ cond due (gravity_of keyed_game) keyed_game
      fallen_state = sym (d.does keyed_game) ∙ ap (λ (es : List Enemy). cond due (gravity_of (before es)) (before es)) (whole_again m w e)

      pub walkers : Walkers g' spots ds s.count
      walkers =
          let z = sound fallen_game (subst WellFormed (sym fallen_state) (fallen_kept keyed_game keyed-formed due).formed) in
          record { cells = z.cells; parts = d.parts }

-- nothing due: marks and state are as the keys left them
module _ (first second time : ℕ) (p : Played Mine) (k : p.quit ≡ false) {due : Ticks} (t : due ≡ both_ticks time first second GRAVITY_CYCLES ENEMY_CYCLES)
    (n : (due.one || due.two) ≡ false) where
  not-one : due.one ≡ false
  not-one = or_left due.one due.two n

  not-two : due.two ≡ false
  not-two = or_right due.one due.two n

  first-kept : due.first ≡ first
  first-kept = ap (λ (d : Ticks). d.first) t ∙ ap (λ (b : Bool). mark_after b time first) (sym (ap (λ (d : Ticks). d.one) t) ∙ not-one)

  second-kept : due.second ≡ second
  second-kept = ap (λ (d : Ticks). d.second) t ∙ ap (λ (b : Bool). mark_after b time second) (sym (ap (λ (d : Ticks). d.two) t) ∙ not-two)

  pub after_nothing : still first second NONE GoingOn p.game ≡ after_keys first second time p
  after_nothing =
      ap (λ (a : ℕ). still a second NONE GoingOn p.game) (sym first-kept)
      ∙ ap (λ (b : ℕ). still due.first b NONE GoingOn p.game) (sym second-kept)
      ∙ after_ticks first second time p k t {fallen = p.game} (rw not-one) {game = p.game} (rw not-two)
