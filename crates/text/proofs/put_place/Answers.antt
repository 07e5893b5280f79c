use mathlib.Core.List.{List}
use mathlib.Core.Path.{sym}
use Prim.Native.Nat.{ℕ, ◌+◌, ◌<◌, ◌≤◌}
use lib.ListN.{length}
use native.Mathlib.Omega.{arith}
use borrow.Author.Tests.{lt-ltb, le-ltb}
use Rattle.text.specs.Text.{NEWLINE, PLACED, bytes_of, decimal, place_line}
use Rattle.text.specs.CodePuts.{Puts}
use Rattle.text.proofs.Puts.{puts-both, puts_byte}
use Rattle.text.proofs.Lines.{number-ends}
use Rattle.text.proofs.put_place.Goals as goal

pub returns-then-number-lt-CAUSES : goal.returns-then-number-lt-CAUSES
unfolding place_line
returns-then-number-lt-CAUSES c =
    let a = c.args in
    rw (sym c.number.ensures, lt-ltb _ 31 c.if-number-lt-CAUSES.true) (puts_byte a.out.now a.at NEWLINE (omega (arith, c.requires)))

-- behind four bytes and a number there is room for the line's end
room : (n : ℕ) {at mid end : ℕ} {l m k : List ℕ} → at + PLACED ≤ length l → Puts (bytes_of " at ") at l mid m → Puts (decimal n) mid m end k → end < length k
room n h p q = omega (arith, number-ends _ q, p.ends, p.size, q.size)

pub bounds-out-end : goal.bounds-out-end
bounds-out-end c = room _ c.requires c.put-place.ensures c.put_number-end.ensures

pub returns : goal.returns
unfolding place_line
returns c =
    let n = c.put_number-end in
    rw (sym c.number.ensures, le-ltb _ 31 c.if-number-lt-CAUSES.false, sym c.at.ensures)
    (puts-both (puts-both c.put-place.ensures n.ensures) (puts_byte n.new.out n.result NEWLINE (room _ c.requires c.put-place.ensures n.ensures)))
