-- P14 of document 01: the nearest readings on both sides of an interval, across the wrap. Assumes nothing.
use Rattle.std.proofs.Common.{◌≡◌, true, false, refl}
use Rattle.pace.specs.Pace.{due_at}

pub due_across_wrap : due_at 2399704 4294967000 2400000 ≡ true
due_across_wrap = refl

pub not_due_across_wrap : due_at 2399703 4294967000 2400000 ≡ false
not_due_across_wrap = refl
