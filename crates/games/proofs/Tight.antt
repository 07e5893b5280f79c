-- Each contract decides its outcome, by the law that stands beside its call. Assumes nothing.
use Rattle.pace.proofs.Tight.{start_tight, due_tight, both_ticks_tight}
use Rattle.frame.proofs.Tight.{page_tight}
use Rattle.mine.proofs.Tight as Mine
use Rattle.cutter.proofs.Tight as Cutter
use Rattle.games.specs.Tight.{MineTight, CutterTight, Tight}

mine_tight : {M : Type 1} → MineTight M
mine_tight =
    record {
      load = Mine.load_tight;
      step_player = Mine.step_player_tight;
      gravity = Mine.gravity_tight;
      move_enemies = Mine.move_enemies_tight;
      pass = Mine.pass_tight;
      pass_marks = Mine.pass_marks_tight;
      render = Mine.render_tight;
      who = Mine.who_tight;
      who_of = Mine.who_of_tight;
    }

cutter_tight : {M : Type 1} → CutterTight M
cutter_tight =
    record {
      new_round = Cutter.new_round_tight;
      new_level = Cutter.new_level_tight;
      direction = Cutter.direction_tight;
      step_player = Cutter.step_player_tight;
      step_by_sweeps = Cutter.step_by_sweeps_tight;
      step_enemies = Cutter.step_enemies_tight;
      respawn = Cutter.respawn_tight;
      pass = Cutter.pass_tight;
      pass_marks = Cutter.pass_marks_tight;
      render = Cutter.render_tight;
      ground_report = Cutter.ground_report_tight;
      who = Cutter.who_tight;
      who_of = Cutter.who_of_tight;
    }

pub tight : {M : Type 1} → Tight M
tight = record { mine = mine_tight; cutter = cutter_tight; start = start_tight; due = due_tight; both_ticks = both_ticks_tight; page = page_tight }
