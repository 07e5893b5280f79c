use mathlib.Core.List.{List}
use mathlib.Core.Path.{◌≡◌}
use Prim.Native.Nat.{ℕ, ◌+◌, ◌*◌, ◌-◌, ◌≤◌}
use lib.ListN.{length, drop}
use Rattle.text.specs.Text.{NUMBERS, DIGITS, further}
use Rattle.text.specs.CodePuts.{Puts}
use Rattle.text.proofs.put_numbers.Given as goal

abbrev pub invariant-loop-n : goal.invariant-loop-n
invariant-loop-n l =
    (l.end + (DIGITS + 1) * (NUMBERS - (l.n-index + 1)) + 1 ≤ length l.out) × (length l.out ≡ length l.initial.out) ×
    ((n : ℕ) (k : List ℕ) → Puts (further (drop l.n-index (drop 1 l.fn.numbers))) l.end l.out n k → Puts (further (drop 1 l.fn.numbers)) l.initial.end l.initial.out n k)
