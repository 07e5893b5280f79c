-- What the calls answer, with the refusal in numbers.
use Rattle.refusal.specs.Refusal.{numbered_of}
use Rattle.mine.specs.declared.calls.MineAnswer.{MineAnswer}
use Rattle.cutter.specs.declared.calls.CutterAnswer.{CutterAnswer}
use Rattle.cutter.specs.declared.calls.Ground.{Ground}
use Rattle.bench_calls.specs.declared.MineNumbers.{MineNumbers}
use Rattle.bench_calls.specs.declared.CutterNumbers.{CutterNumbers}
use Rattle.bench_calls.specs.declared.GroundNumbers.{GroundNumbers}

abbrev pub mine_in_numbers : MineAnswer → MineNumbers
mine_in_numbers a = record { refusal = numbered_of a.refusal; game = a.game }

abbrev pub cutter_in_numbers : CutterAnswer → CutterNumbers
cutter_in_numbers a = record { refusal = numbered_of a.refusal; game = a.game; searched = a.searched; walked = a.walked }

abbrev pub ground_in_numbers : Ground → GroundNumbers
ground_in_numbers g = record { refusal = numbered_of g.refusal; black = g.black; claimed = g.claimed; line = g.line; share = g.share }
