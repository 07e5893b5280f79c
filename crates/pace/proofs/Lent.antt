-- The record as what a caller of a pass lends and takes back. Assumes nothing.
use Rattle.std.proofs.Common.{◌^◌, ◌<◌, refl}
use denote.Struct.Laws as LL
use Rattle.lent.proofs.Lent.{Lendable, Made}
use Rattle.pace.specs.declared.Pace.{Pace}
use Rattle.pace.specs.contracts.Pace as T
use Rattle.pace.proofs.Pace.TheLaws as T'

abbrev pub pace : Lendable
pace = record { ty = T.the_type; laws = T'.the_laws; plain = T'.the_plain }

pub made : (p : Pace) → p.first < 2 ^ 32 → p.second < 2 ^ 32 → Made pace p
made p f s = LL.owes T.the_type T'.the_laws p ((refl, f), ((refl, s), tt))
