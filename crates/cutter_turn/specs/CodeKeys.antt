-- What is left of a pass's keys: the last direction. No promise cites it.
use Rattle.std.specs.Prelude.{List, ◌≡◌, ℕ}
use Rattle.cutter_state.specs.declared.Cutter.{Cutter}
use Rattle.cutter_rules.specs.Step.{directed}
use Rattle.cutter_pass.specs.Pass.{played}
use Rattle.cutter_turn.specs.declared.Pressed.{Pressed}
use Rattle.controls.specs.Keys.{Played, turned}

-- one direction in place of all keys, for every state
abbrev pub Plays : List ℕ → Pressed → Type 0
Plays keys r = (c : Cutter) → ◌≡◌ {A = Played Cutter} (record { quit = r.quit; game = turned directed c r.dir }) (played c keys)
