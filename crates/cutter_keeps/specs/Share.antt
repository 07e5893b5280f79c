-- Document 02 (ii): the share counts closed ground alone.
use Rattle.std.specs.Prelude.{true, false, ◌≡◌, ◌≤◌}
use Rattle.cutter_state.specs.declared.Cutter.{Cutter}
use Rattle.cutter_state.specs.State.{share_in}
use Rattle.cutter_state.specs.WellFormed.{WellFormed}
use Rattle.cutter_rules.specs.Step.{stepped, respawned, closes}
use Rattle.cutter_keeps.specs.Kept.{Fresh}

pub record ShareKept : Type 0 where
  -- a fresh level has none
  pub fresh : (c : Cutter) → Fresh c → share_in c ≡ 0
  -- it stays while a line is laid, and by every other step that closes no cut
  pub laying : (c : Cutter) → WellFormed c → closes c ≡ false → share_in (stepped c) ≡ share_in c
  -- it stays when the line is lost
  pub lost : (c : Cutter) → WellFormed c → share_in (respawned c) ≡ share_in c
  -- a closing never lowers it
  pub closing : (c : Cutter) → WellFormed c → closes c ≡ true → share_in c ≤ share_in (stepped c)
