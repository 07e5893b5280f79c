-- What is shown of a play: the head line of its numbers, and the picture that the public call gives.
use Rattle.std.specs.Prelude.{List, ◌≡◌, ℕ, replicate}
use Rattle.text.specs.CodePuts.{Puts}
use Rattle.console_screens.specs.Heads.{HEAD, mine_head, cutter_head}
use Rattle.frame.specs.Frame.{FRAME_LEN}
use Rattle.mine.specs.Picture as Mine
use Rattle.cutter.specs.Picture as Cutter
use Rattle.cutter.specs.Calls.{report_call}
use Rattle.console_turns.specs.declared.mining.MinePlay.{MinePlay}
use Rattle.console_turns.specs.declared.cut.CutterPlay.{CutterPlay}
use Rattle.console_screens.specs.declared.screens.Screen.{Screen}

-- a head line and a frame that began as zeros
abbrev blank_head : List ℕ
blank_head = replicate HEAD 0

abbrev blank_frame : List ℕ
blank_frame = replicate FRAME_LEN 0

pub record MineShown (p : MinePlay) (s : Screen) : Type 0 where
  pub text : Puts (mine_head p.game.coins p.game.needed p.stands) 0 blank_head s.end s.head
  pub picture : s.frame ≡ (Mine.picture_of p.game blank_frame).1

pub record CutterShown (p : CutterPlay) (s : Screen) : Type 0 where
  pub text : Puts (cutter_head p.game.level p.game.lives (report_call p.game).share p.stands) 0 blank_head s.end s.head
  pub picture : s.frame ≡ (Cutter.picture_of p.game blank_frame).1
