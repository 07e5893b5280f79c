-- What a scan of a list has met, for the code of both games' questions.
use Rattle.std.specs.Prelude.{Bool, cond, List, ◌+◌, ◌<◌, ◌^◌, eqb, Option, None}
use Rattle.laws.specs.Lists.{bit, count}
use Rattle.found.specs.First.{At, first_from}
use Rattle.found.specs.declared.Found.{Found}
use Rattle.found.specs.declared.Tally.{Tally}

-- one more can be counted
pub record Countable (t : Tally) : Type 0 where
  pub first : t.first + 1 < 2 ^ 64
  pub number : t.number + 1 < 2 ^ 64

-- after one more was looked at
abbrev pub counted : Tally → Bool → Tally
counted t here = record { first = t.first + bit (eqb (t.number + bit here) 0); number = t.number + bit here }

-- what is told at the end
abbrev pub told_of : Tally → Option Found
told_of t = cond (eqb t.number 0) None (At t.first t.number)

-- what will be told, where the rest of a list is looked at
abbrev pub to_tell : {A : Type 0} → (A → Bool) → Tally → List A → Option Found
to_tell test t l = cond (eqb t.number 0) (first_from test t.first l) (At t.first (t.number + count test l))
