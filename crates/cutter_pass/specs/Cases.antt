-- Document 01's marked case of a pass.
use Rattle.std.specs.Prelude.{true, false, ◌≡◌, ℕ}
use Rattle.cutter_pass.specs.Pass.{ticks_at}

-- mark 4,294,967,000: step due at 2,399,704, not at 2,399,703
abbrev pub P14 : Type 0
P14 = (second : ℕ) → ((ticks_at 4294967000 second 2399704).one ≡ true) × ((ticks_at 4294967000 second 2399703).one ≡ false)
