use mathlib.Core.List.{List}
use mathlib.Core.Path.{◌≡◌}
use Prim.Native.Nat.{ℕ, ◌*◌, ◌≤◌}
use lib.ListN.{length, drop}
use Rattle.text.specs.Text.{LINE}
use Rattle.text.specs.CodePuts.{Puts}
use Rattle.lines.specs.Runs.{game_after, lines_after}
use Rattle.lines.proofs.playing.run_bytes.Given as goal

abbrev pub invariant-loop-byte : goal.invariant-loop-byte
invariant-loop-byte g l =
    let byte = g.G.Played.byte_of in
    let start = g.G.Played.started in
    let numbers = g.G.Played.numbers_of in
    (l.end ≤ l.byte-index * LINE) × (length l.out ≡ length l.initial.out) ×
    (game_after byte start l.parted l.game (drop l.byte-index l.bytes) ≡ game_after byte start l.parted l.initial.game l.bytes) ×
    ((n : ℕ) (k : List ℕ) → Puts (lines_after byte start numbers l.parted l.game (drop l.byte-index l.bytes)) l.end l.out n k
    → Puts (lines_after byte start numbers l.parted l.initial.game l.bytes) 0 l.initial.out n k)
