use mathlib.Core.Path.{◌≡◌, ◌∙◌}
use Prim.Native.Nat.{◌<◌, ◌≤◌}
use native.Mathlib.Omega.{arith}
use borrow.Author.Rules.{rules}
use lib.ListN.{length}
use Rattle.text.specs.Text.{NUMBERS}
use Rattle.lines.specs.Runs.{said, step, game_after, line}
use Rattle.lines.proofs.Runs.{after_end, lines_end}
use Rattle.lines.proofs.Bytes.{played-more, told_more, room-more}
use Rattle.lines.proofs.playing.run_bytes.Goals as goal

pub loop-byte-preserved : goal.loop-byte-preserved
loop-byte-preserved g c =
    let byte = g.G.Played.byte_of in
    let start = g.G.Played.started in
    let numbers = g.G.Played.numbers_of in
    let parted = c.args.parted in
    let bytes = c.args.bytes.now in
    let s = c.loop-byte in
    let x = c.advance-says in
    let y = said x.result x.new.game in
    let n = c.numbers in
    let p = c.put_line-end in
    let size : length n.result ≡ NUMBERS = search rules in
    let more : s.byte-index < length bytes = omega arith in (
      room-more byte start numbers parted bytes s.byte-index s.game y x.ensures n.result n.ensures p.ensures size s.invariant.0,
      p.ensures.size ∙ s.invariant.1,
      played-more byte start numbers parted bytes s.byte-index s.game y x.ensures more {R = game_after byte start parted c.args.start bytes} s.invariant.2,
      λ k l q. s.invariant.3 k l (told_more byte start numbers parted bytes s.byte-index s.game y x.ensures n.result n.ensures p.ensures more q),
    )

pub returns : goal.returns
returns g c =
    let byte = g.G.Played.byte_of in
    let start = g.G.Played.started in
    let numbers = g.G.Played.numbers_of in
    let parted = c.args.parted in
    let bytes = c.args.bytes.now in
    let s = c.loop-byte in
    let all : length bytes ≤ s.byte-index = omega arith in
    record {
      played = after_end (step byte start parted) bytes s.byte-index s.game all {R = game_after byte start parted c.args.start bytes} s.invariant.2;
      told = s.invariant.3 s.end s.out (lines_end (step byte start parted) (line byte start numbers parted) bytes s.byte-index s.game s.end s.out all);
    }
